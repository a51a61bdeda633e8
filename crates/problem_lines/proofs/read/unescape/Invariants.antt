use Rattle.std.proofs.Common.{◌≡◌, ◌++◌, length, string_bytes}
use denote.Text.{Utf8}
use denote.Shadow.{shadow}
use Rattle.problem_lines.specs.Parsed.{unescape}
use Rattle.problem_lines.proofs.read.unescape.Given as goal

-- what is left comes next
abbrev pub invariant-loop-parts : goal.invariant-loop-parts
invariant-loop-parts l = shadow (Utf8 l.rest) × (string_bytes l.out ++ unescape l.rest ≡ unescape l.text)

abbrev pub decreases-loop-parts : goal.decreases-loop-parts
decreases-loop-parts l = length l.rest

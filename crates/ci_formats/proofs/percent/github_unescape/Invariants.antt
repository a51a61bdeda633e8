use Rattle.std.proofs.Common.{◌≡◌, ◌++◌, length, string_bytes}
use denote.Text.{Utf8}
use denote.Shadow.{shadow}
use Rattle.ci_formats.specs.Unescape.{unescape}
use Rattle.ci_formats.proofs.percent.github_unescape.Given as goal

-- what is left comes next
abbrev pub invariant-loop-front : goal.invariant-loop-front
invariant-loop-front l = shadow (Utf8 l.rest) × (string_bytes l.out ++ unescape l.field l.rest ≡ unescape l.field l.text)

abbrev pub decreases-loop-front : goal.decreases-loop-front
decreases-loop-front l = length l.rest

use Rattle.std.proofs.Common.{◌≡◌, ◌++◌, length, string_bytes}
use denote.Text.{Utf8}
use denote.Shadow.{shadow}
use Rattle.escapes.specs.Escape.{escaped}
use Rattle.escapes.proofs.spelled.push_escaped.Given as goal

-- what is left comes next
abbrev pub invariant-loop-at : goal.invariant-loop-at
invariant-loop-at g l = shadow (Utf8 l.rest) × (string_bytes l.out ++ escaped (g.S.Spelling.spelled l.kind) l.rest ≡ string_bytes l.initial.out ++ escaped (g.S.Spelling.spelled l.kind) l.text)

abbrev pub decreases-loop-at : goal.decreases-loop-at
decreases-loop-at g l = length l.rest

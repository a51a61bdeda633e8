-- None of the breaks before stands there.
use Rattle.std.proofs.Common.{◌≡◌, drop, map}
use Rattle.sarif_spans.specs.Rows.{break_len}
use Rattle.sarif_spans.proofs.rows.break_at.Given as goal

abbrev pub invariant-loop-text : goal.invariant-loop-text
invariant-loop-text l = break_len (map (λ it. it.now) l.breaks) l.rest ≡ break_len (map (λ it. it.now) (drop l.text-index l.breaks)) l.rest

-- The largest end so far, and those after it.
use Rattle.std.proofs.Common.{◌≡◌, fold, length, max}
use Rattle.oxc_plan.specs.Groups.{largest_end}
use Rattle.report_texts.proofs.long_rows.joint_span.Given as goal

abbrev pub invariant-loop-rest : goal.invariant-loop-rest
invariant-loop-rest l = fold (λ most span. max most span.end) l.end l.rest ≡ largest_end l.spans l.group.start l.group.end

abbrev pub decreases-loop-rest : goal.decreases-loop-rest
decreases-loop-rest l = length l.rest

use Rattle.std.proofs.Common.{[], ◌∷◌, ◌++◌}
use Rattle.std.specs.Str.{IsCharBoundary}
use Rattle.std.proofs.lemmas.List.Elements.{All-append, All-cons, All-nil}
use Rattle.oxc_plan.proofs.marks.ends_of.Goals as goal

pub loop-at-preserved : goal.loop-at-preserved
loop-at-preserved c =
    let text = c.args.row.now.text.now in
    let one = All-append (IsCharBoundary text) c.loop-at.ends.items (c.end_in.result ∷ []) c.loop-at.invariant (All-cons (IsCharBoundary text) c.end_in.result [] c.end_in.ensures (All-nil (IsCharBoundary text))) in
    let both = All-append (IsCharBoundary text) (c.loop-at.ends.items ++ c.end_in.result ∷ []) (c.end_in-in-loop-at.result ∷ []) one (All-cons (IsCharBoundary text) c.end_in-in-loop-at.result [] c.end_in-in-loop-at.ensures (All-nil (IsCharBoundary text))) in
    rw (c.in_ok-push-2.ensures.items, c.in_ok-push.ensures.items) both

-- Two turns are a round.
use Rattle.std.proofs.Common.{Bool, true, List, [], map, ap, ◌∙◌}
use Rattle.finding_filters.specs.Baseline.{Passed, item_parts, left_in, passed, then_late, turned}
use Rattle.finding_filters.proofs.baseline.turns.Goals as goal

pub returns : goal.returns
unfolding turned
returns c =
    let items = map item_parts c.args.items.now in
    ap (λ (it : Passed). it.taken) c.in_ok-late.ensures
    ∙ ap (λ (flags : List Bool). (passed c.args.round true [] items flags (left_in c.pass.new.counts)).taken) c.deref.ensures.value
    ∙ ap (then_late c.args.round items) c.in_ok-early.ensures

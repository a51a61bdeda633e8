-- The rounds, one after another.
use Rattle.std.proofs.Common.{◌≡◌, Bool, List, map, ap, ◌∙◌}
use Rattle.finding_filters.specs.Baseline.{Left, entries_in, first_round, item_parts, known as known_in, left_in, second_round, taken_away, turned}
use Rattle.finding_filters.specs.declared.baseline.Round.TheVariants.{SameRow, NoRow, Rest}
use Rattle.finding_filters.proofs.baseline.known.Goals as goal

pub returns : goal.returns
unfolding known_in
returns c =
    let items = map item_parts c.args.items.now in
    let entries = map item_parts c.args.entries.now in
    let taken = c.args.taken.now in
    let first : c.in_ok-first.first.items ≡ first_round items taken entries = c.in_ok-first.ensures ∙ ap (turned SameRow items taken) c.in_ok-rows.ensures in
    let away : left_in c.take_away.new.counts ≡ taken_away (entries_in NoRow entries) items taken (first_round items taken entries) =
    c.take_away.ensures ∙ ap (λ (left : Left). taken_away left items taken c.deref.result.now) c.in_ok-others.ensures
    ∙ ap (taken_away (entries_in NoRow entries) items taken) (c.deref.ensures.value ∙ first) in
    let second : c.in_ok-second.second.items ≡ second_round items taken entries (first_round items taken entries) =
    c.in_ok-second.ensures ∙ ap (λ (left : Left). turned NoRow items c.deref-2.result.now left) away
    ∙ ap (λ (flags : List Bool). turned NoRow items flags (taken_away (entries_in NoRow entries) items taken (first_round items taken entries)))
    (c.deref-2.ensures.value ∙ first) in
    c.in_ok-third.ensures ∙ ap (λ (left : Left). turned Rest items c.deref-3.result.now left) c.in_ok-without.ensures
    ∙ ap (λ (flags : List Bool). turned Rest items flags (entries_in Rest entries)) (c.deref-3.ensures.value ∙ second)

use Rattle.std.proofs.Common.{◌∙◌, All, Some, ap, arith, length, subst, refl}
use Rattle.std.specs.Option.{unwrap_or}
use Rattle.oxc_windows.specs.Breaks.{breaks_of}
use Rattle.oxc_windows.proofs.BreaksLemmas.{breaks_valid}
use Rattle.oxc_plan.specs.Order.{spans_in_order}
use Rattle.oxc_plan.specs.Groups.{AreGroups, group_window, groups_of, span_at}
use Rattle.oxc_plan.specs.Keeping.{KeepsRows}
use Rattle.oxc_plan.proofs.DrawableLemmas.{spans_as_many}
use Rattle.oxc_plan.proofs.OrderLemmas.{spans_ascend, spans_valid}
use Rattle.oxc_plan.proofs.GroupsLemmas.{groups_apart, groups_hold, groups_of_are, same_groups}
use Rattle.oxc_plan.proofs.grouping.groups.Goals as goal

pub groups_of_spans-requires-clause-within : goal.groups_of_spans-requires-clause-within
groups_of_spans-requires-clause-within c =
    spans_valid (length c.args.scanner.now.input) c.args.labels.now c.deref.result.now (c.deref.ensures.value ∙ c.in_ok-spans.ensures) c.requires.within

pub returns-clause-apart : goal.returns-clause-apart
returns-clause-apart c =
    let input = c.args.scanner.now.input in
    let labels = c.args.labels.now in
    let spans = spans_in_order labels in
    let same = c.deref.ensures.value ∙ c.in_ok-spans.ensures in
    groups_apart (length input) (breaks_of input) spans 0 c.in_ok-found.found.items (breaks_valid input)
    (record { ascend = spans_ascend labels; within = spans_valid (length input) labels spans refl c.requires.within })
    (subst (λ s. AreGroups (length input) (breaks_of input) s 0 c.in_ok-found.found.items) same c.in_ok-found.ensures.groups)

pub returns-clause-held : goal.returns-clause-held
returns-clause-held c =
    let input = c.args.scanner.now.input in
    let labels = c.args.labels.now in
    let spans = spans_in_order labels in
    let same = c.deref.ensures.value ∙ c.in_ok-spans.ensures in
    groups_hold (length input) (breaks_of input) spans 0 c.in_ok-found.found.items (breaks_valid input)
    (record { ascend = spans_ascend labels; within = spans_valid (length input) labels spans refl c.requires.within })
    (subst (λ s. AreGroups (length input) (breaks_of input) s 0 c.in_ok-found.found.items) same c.in_ok-found.ensures.groups)

pub returns-clause-value : goal.returns-clause-value
returns-clause-value c =
    let input = c.args.scanner.now.input in
    let spans = spans_in_order c.args.labels.now in
    let same = c.deref.ensures.value ∙ c.in_ok-spans.ensures in
    same_groups (length input) (breaks_of input) spans 0 c.in_ok-found.found.items (groups_of (length input) (breaks_of input) spans)
    (subst (λ s. AreGroups (length input) (breaks_of input) s 0 c.in_ok-found.found.items) same c.in_ok-found.ensures.groups)
    (groups_of_are (length input) (breaks_of input) spans)

pub returns-clause-first : goal.returns-clause-first
returns-clause-first c some =
    let same = c.deref.ensures.value ∙ c.in_ok-spans.ensures in
    c.in_ok-found.ensures.first (omega (arith, some, ap length same, spans_as_many c.args.labels.now))
    ∙ ap (λ s. Some (unwrap_or c.args.scanner.now.first (span_at s 0).start)) same

pub returns-clause-keeps : goal.returns-clause-keeps
returns-clause-keeps c =
    let source = c.args.scanner.now.input in
    let same = c.deref.ensures.value ∙ c.in_ok-spans.ensures in
    subst (All (λ group. KeepsRows source c.groups_of_spans.new.scanner (span_at (spans_in_order c.args.labels.now) group.start).start (group_window (length source) (breaks_of source) (spans_in_order c.args.labels.now) group).end)) (returns-clause-value c)
    (subst (λ s. All (λ group. KeepsRows source c.groups_of_spans.new.scanner (span_at s group.start).start (group_window (length source) (breaks_of source) s group).end) c.in_ok-found.found.items) same c.in_ok-found.ensures.keeps)

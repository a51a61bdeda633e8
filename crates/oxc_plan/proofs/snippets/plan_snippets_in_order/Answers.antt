use Rattle.std.proofs.Common.{◌≡◌, ◌∷◌, [], ◌∙◌, All, Some, ap, length, map, subst, sym, arith}
use Rattle.std.specs.Option.{unwrap_or}
use Rattle.oxc_windows.specs.Breaks.{breaks_of}
use Rattle.oxc_plan.specs.Drawable.{IsDrawable}
use Rattle.oxc_plan.specs.Groups.{groups_of, span_at}
use Rattle.oxc_plan.specs.Keeping.{KeepsGroup}
use Rattle.oxc_plan.specs.Order.{AreOrderedSpans}
use Rattle.oxc_plan.specs.Plan.{ordered_view, snippet_view, spans_of}
use Rattle.oxc_plan.proofs.DrawableLemmas.{snippets_drawable, spans_as_many}
use Rattle.oxc_plan.proofs.OrderLemmas.{ordered_spans}
use Rattle.oxc_plan.proofs.PlanLemmas.{one_ordered, ordered_are, planned, spans_ordered, spans_taken}
use Rattle.oxc_plan.proofs.snippets.plan_snippets_in_order.Goals as goal

pub returns-in-len1-clause-plan : goal.returns-in-len1-clause-plan
returns-in-len1-clause-plan c =
    let labels = c.args.labels.now in
    let source = c.args.scanner.now.input in
    let one : length labels ≡ 1 = omega (arith, c.in-len1.len_at_least, c.in-len1.len_below) in
    let is = one_ordered labels (ordered_view c.ordered_label-label.result) one c.ordered_label-label.ensures in
    let same = ap spans_of is ∙ spans_ordered labels in
    planned c.args.tabs source labels (ordered_view c.ordered_label-label.result ∷ []) (c.ordered_label-label.result.span ∷ []) (map snippet_view c.in_ok-plans.plans.items) is same c.in_ok-plans.ensures.plan

pub returns-in-len1-clause-drawable : goal.returns-in-len1-clause-drawable
returns-in-len1-clause-drawable c =
    subst (All (IsDrawable (length c.args.scanner.now.input) (length c.args.labels.now))) (sym (returns-in-len1-clause-plan c))
    (snippets_drawable c.args.tabs c.args.scanner.now.input c.args.labels.now c.requires.plan.reads.text c.requires.plan.within)

pub returns-in-len1-clause-first : goal.returns-in-len1-clause-first
returns-in-len1-clause-first c some =
    let labels = c.args.labels.now in
    let one : length labels ≡ 1 = omega (arith, c.in-len1.len_at_least, c.in-len1.len_below) in
    let is = one_ordered labels (ordered_view c.ordered_label-label.result) one c.ordered_label-label.ensures in
    let same = ap spans_of is ∙ spans_ordered labels in
    c.in_ok-plans.ensures.first (omega arith) ∙ ap (λ s. Some (unwrap_or c.args.scanner.now.first (span_at s 0).start)) same

pub returns-in-len1-clause-keeps : goal.returns-in-len1-clause-keeps
returns-in-len1-clause-keeps c =
    let labels = c.args.labels.now in
    let source = c.args.scanner.now.input in
    let one : length labels ≡ 1 = omega (arith, c.in-len1.len_at_least, c.in-len1.len_below) in
    let is = one_ordered labels (ordered_view c.ordered_label-label.result) one c.ordered_label-label.ensures in
    let same = ap spans_of is ∙ spans_ordered labels in
    subst (λ s. All (KeepsGroup source s c.plan_groups.new.scanner) (groups_of (length source) (breaks_of source) s)) same c.in_ok-plans.ensures.keeps

pub plan_groups-requires-2-clause-spans : goal.plan_groups-requires-2-clause-spans
plan_groups-requires-2-clause-spans c =
    spans_taken c.in_ok-ordered.ordered.items c.deref.result.now c.deref-2.result.now c.in_ok-spans.spans.items c.deref-3.result.now c.deref.ensures.value c.deref-2.ensures.value c.deref-3.ensures.value c.in_ok-spans.ensures

pub plan_groups-requires-2-clause-ordered : goal.plan_groups-requires-2-clause-ordered
plan_groups-requires-2-clause-ordered c =
    let labels = c.args.labels.now in
    let source = c.args.scanner.now.input in
    let known = ordered_are labels c.args.order.now (map ordered_view c.deref-2.result.now) c.requires.order (ap (map ordered_view) c.deref-2.ensures.value ∙ c.in_ok-ordered.ensures) in
    let own = spans_taken c.in_ok-ordered.ordered.items c.deref.result.now c.deref-2.result.now c.in_ok-spans.spans.items c.deref-3.result.now c.deref.ensures.value c.deref-2.ensures.value c.deref-3.ensures.value c.in_ok-spans.ensures in
    let same = own ∙ ap spans_of known ∙ spans_ordered labels in
    subst (AreOrderedSpans (length source)) (sym same) (ordered_spans (length source) labels c.requires.plan.within)

pub returns-clause-plan : goal.returns-clause-plan
returns-clause-plan c =
    let labels = c.args.labels.now in
    let source = c.args.scanner.now.input in
    let known = ordered_are labels c.args.order.now (map ordered_view c.deref-2.result.now) c.requires.order (ap (map ordered_view) c.deref-2.ensures.value ∙ c.in_ok-ordered.ensures) in
    let own = spans_taken c.in_ok-ordered.ordered.items c.deref.result.now c.deref-2.result.now c.in_ok-spans.spans.items c.deref-3.result.now c.deref.ensures.value c.deref-2.ensures.value c.deref-3.ensures.value c.in_ok-spans.ensures in
    let same = own ∙ ap spans_of known ∙ spans_ordered labels in
    planned c.args.tabs source labels (map ordered_view c.deref-2.result.now) c.deref-3.result.now (map snippet_view c.in_ok-plans-2.plans.items) known same c.in_ok-plans-2.ensures.plan

pub returns-clause-drawable : goal.returns-clause-drawable
returns-clause-drawable c =
    subst (All (IsDrawable (length c.args.scanner.now.input) (length c.args.labels.now))) (sym (returns-clause-plan c))
    (snippets_drawable c.args.tabs c.args.scanner.now.input c.args.labels.now c.requires.plan.reads.text c.requires.plan.within)

pub returns-clause-first : goal.returns-clause-first
returns-clause-first c some =
    let labels = c.args.labels.now in
    let known = ordered_are labels c.args.order.now (map ordered_view c.deref-2.result.now) c.requires.order (ap (map ordered_view) c.deref-2.ensures.value ∙ c.in_ok-ordered.ensures) in
    let own = spans_taken c.in_ok-ordered.ordered.items c.deref.result.now c.deref-2.result.now c.in_ok-spans.spans.items c.deref-3.result.now c.deref.ensures.value c.deref-2.ensures.value c.deref-3.ensures.value c.in_ok-spans.ensures in
    let same = own ∙ ap spans_of known ∙ spans_ordered labels in
    c.in_ok-plans-2.ensures.first (omega (arith, some, ap length same, spans_as_many labels))
    ∙ ap (λ s. Some (unwrap_or c.args.scanner.now.first (span_at s 0).start)) same

pub returns-clause-keeps : goal.returns-clause-keeps
returns-clause-keeps c =
    let labels = c.args.labels.now in
    let source = c.args.scanner.now.input in
    let known = ordered_are labels c.args.order.now (map ordered_view c.deref-2.result.now) c.requires.order (ap (map ordered_view) c.deref-2.ensures.value ∙ c.in_ok-ordered.ensures) in
    let own = spans_taken c.in_ok-ordered.ordered.items c.deref.result.now c.deref-2.result.now c.in_ok-spans.spans.items c.deref-3.result.now c.deref.ensures.value c.deref-2.ensures.value c.deref-3.ensures.value c.in_ok-spans.ensures in
    let same = own ∙ ap spans_of known ∙ spans_ordered labels in
    subst (λ s. All (KeepsGroup source s c.plan_groups-2.new.scanner) (groups_of (length source) (breaks_of source) s)) same c.in_ok-plans-2.ensures.keeps

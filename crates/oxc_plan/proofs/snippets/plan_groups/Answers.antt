use Rattle.std.proofs.Common.{◌≡◌, ◌+◌, ◌<◌, ◌∙◌, ℕ, ◌∷◌, [], All, Some, ap, drop, get_or, length, map, refl, subst, sym, take, arith, ⊎_elim}
use Rattle.std.proofs.lemmas.Bool.{cases_lt}
use Rattle.std.proofs.lemmas.List.{length-append, take_all, take_more}
use Rattle.std.proofs.lemmas.List.Elements.{All-append, All-cons, All-nil}
use Rattle.std.specs.Option.{unwrap_or}
use Rattle.std.specs.declared.ops.Range.{Range}
use Rattle.std.specs.Str.{IsUtf8}
use Rattle.oxc_windows.specs.Breaks.{breaks_of}
use Rattle.oxc_plan.specs.GroupRead.{IsGroupFrom, IsReadTogether}
use Rattle.oxc_plan.specs.Groups.{AreGroups, IsGroup, groups_of, span_at}
use Rattle.oxc_plan.specs.Keeping.{KeepsGroup}
use Rattle.oxc_plan.specs.Order.{AreOrderedSpans, LieWithin}
use Rattle.oxc_plan.specs.Plan.{ordered_view, snippet_of, snippet_view}
use Rattle.oxc_plan.specs.Sweep.{IsGroupAlone}
use Rattle.oxc_plan.proofs.GroupsLemmas.{group_at, groups_at_end, groups_of_are, same_range}
use Rattle.oxc_plan.proofs.PlanLemmas.{views_more}
use Rattle.oxc_plan.proofs.ScannedLemmas.{keeps_later, on_self, on_then, round_after}
use Rattle.oxc_plan.proofs.SweepLemmas.{groups_alone}
use Rattle.oxc_plan.proofs.snippets.plan_groups.Goals as goal

none : Range ℕ
none = record { start = 0; end = 0 }

pub loop-first-init : goal.loop-first-init
loop-first-init c =
    let source = c.args.scanner.now.input in
    let spans = c.args.spans.now in
    record {
      scanner = on_self c.args.scanner.now;
      none = λ e. refl;
      set = λ some. absurd (omega (arith, some));
      within = omega arith;
      plans = rw c.new-plans.ensures.items refl;
      keeps = rw c.new-plans.ensures.items (All-nil (KeepsGroup source spans c.args.scanner.now));
      ahead = rw c.new-plans.ensures.items (groups_of_are (length source) (breaks_of source) spans);
    }

pub group_read-requires-clause-round : goal.group_read-requires-clause-round
group_read-requires-clause-round c = round_after c.args.scanner.now c.loop-first.scanner c.loop-first.invariant.scanner c.requires.reads.round

pub group_read-requires-clause-within : goal.group_read-requires-clause-within
group_read-requires-clause-within c =
    subst (λ source. LieWithin (length source) c.args.spans.now) (sym c.loop-first.invariant.scanner.same.input) c.requires.ordered.within

pub returns-in_err-group-clause-stays : goal.returns-in_err-group-clause-stays
returns-in_err-group-clause-stays c = on_then c.args.scanner.now c.loop-first.scanner _ c.loop-first.invariant.scanner c.group_read.ensures.stays

pub plan_snippet-requires-clause-text : goal.plan_snippet-requires-clause-text
plan_snippet-requires-clause-text c =
    subst IsUtf8 (sym (c.in_ok-group.ensures.stays.same.input ∙ c.loop-first.invariant.scanner.same.input)) c.requires.reads.text

pub plan_snippet-requires-clause-ordered : goal.plan_snippet-requires-clause-ordered
plan_snippet-requires-clause-ordered c =
    subst (λ source. AreOrderedSpans (length source) c.args.spans.now) (sym (c.in_ok-group.ensures.stays.same.input ∙ c.loop-first.invariant.scanner.same.input)) c.requires.ordered

pub plan_snippet-requires-clause-alone : goal.plan_snippet-requires-clause-alone
plan_snippet-requires-clause-alone c =
    let kept = c.loop-first.invariant in
    let source = c.args.scanner.now.input in
    let len = length source in
    let list = breaks_of source in
    let spans = c.args.spans.now in
    let groups = groups_of len list spans in
    let k = length c.loop-first.plans.items in
    let first = c.loop-first.first in
    let group = c.in_ok-group.group in
    let is = subst (λ s. IsGroupFrom s spans first group) kept.scanner.same.input c.in_ok-group.ensures.group in
    let found = subst (λ s. IsGroup len list spans s group.places.end) is.from is.is in
    let at = group_at len list spans groups k first group.places.end none kept.ahead c.loop-first-test.true found in
    let here : group.places ≡ get_or groups k none = same_range group.places (record { start = first; end = group.places.end }) is.from refl ∙ sym at.1 in
    let same = c.in_ok-group.ensures.stays.same.input ∙ kept.scanner.same.input in
    let alone = groups_alone source spans groups c.requires.ordered (groups_of_are len list spans) k none at.0 in
    subst (λ s. IsGroupAlone s spans group.places) (sym same) (subst (IsGroupAlone source spans) (sym here) alone)

pub plan_snippet-requires-clause-read : goal.plan_snippet-requires-clause-read
plan_snippet-requires-clause-read c =
    subst (λ source. IsReadTogether source c.args.spans.now c.in_ok-group.group) (sym c.in_ok-group.ensures.stays.same.input) c.in_ok-group.ensures.group.read

pub returns-in_err-plan_snippet-clause-stays : goal.returns-in_err-plan_snippet-clause-stays
returns-in_err-plan_snippet-clause-stays c = on_then c.args.scanner.now c.loop-first.scanner _ c.loop-first.invariant.scanner c.in_ok-group.ensures.stays

pub returns-in_err-push-clause-stays : goal.returns-in_err-push-clause-stays
returns-in_err-push-clause-stays c = on_then c.args.scanner.now c.loop-first.scanner _ c.loop-first.invariant.scanner c.in_ok-group.ensures.stays

pub loop-first-preserved : goal.loop-first-preserved
loop-first-preserved c =
    let kept = c.loop-first.invariant in
    let source = c.args.scanner.now.input in
    let len = length source in
    let list = breaks_of source in
    let spans = c.args.spans.now in
    let groups = groups_of len list spans in
    let k = length c.loop-first.plans.items in
    let first = c.loop-first.first in
    let group = c.in_ok-group.group in
    let is = subst (λ s. IsGroupFrom s spans first group) kept.scanner.same.input c.in_ok-group.ensures.group in
    let found = subst (λ s. IsGroup len list spans s group.places.end) is.from is.is in
    let at = group_at len list spans groups k first group.places.end none kept.ahead c.loop-first-test.true found in
    let here : group.places ≡ get_or groups k none = same_range group.places (record { start = first; end = group.places.end }) is.from refl ∙ sym at.1 in
    let same = c.in_ok-group.ensures.stays.same.input ∙ kept.scanner.same.input in
    let labels = map ordered_view c.args.labels.now in
    let f = snippet_of c.args.tabs source labels in
    let plans = c.loop-first.plans.items in
    let plan = c.in_ok-plan_snippet.field-0 in
    let scanner = c.group_read.new.scanner in
    let keeps : Range ℕ → Type 0 = KeepsGroup source spans scanner in
    let pushed = c.in_ok-push.ensures.items in
    let size : length c.push.new.self.items ≡ k + 1 = omega (arith, ap length pushed, length-append plans (plan ∷ [])) in
    let made = c.in_ok-plan_snippet.ensures ∙ ap (λ s. snippet_of c.args.tabs s labels group.places) same ∙ ap f here in
    let more = take_more groups k none at.0 in
    record {
      scanner = on_then c.args.scanner.now c.loop-first.scanner _ kept.scanner c.in_ok-group.ensures.stays;
      none = λ e. absurd (omega (arith, e, found.some));
      set = λ some.
          ⊎_elim
          (λ later. c.in_ok-group.ensures.stays.first _ (kept.set later))
          (λ begin. let zero_first : first ≡ 0 = omega (arith, begin) in
          c.in_ok-group.ensures.first ∙ ap (λ o. Some (unwrap_or o (span_at spans first).start)) (kept.none zero_first)
          ∙ ap (λ i. Some (unwrap_or c.args.scanner.now.first (span_at spans i).start)) zero_first)
          (cases_lt 0 first);
      within = found.within;
      plans = ap (map snippet_view) pushed ∙ views_more snippet_view f plans plan groups k none at.0 kept.plans made ∙ ap (λ n. map f (take n groups)) (sym size);
      keeps = subst (λ n. All keeps (take n groups)) (sym size)
          (subst (All keeps) (sym more)
          (All-append keeps (take k groups) (get_or groups k none ∷ []) (λ i d lt. keeps_later source c.loop-first.scanner _ _ _ c.in_ok-group.ensures.stays (kept.keeps i d lt))
          (All-cons keeps (get_or groups k none) [] (subst keeps here (subst (λ s. KeepsGroup s spans scanner group.places) kept.scanner.same.input c.in_ok-group.ensures.keeps)) (All-nil keeps))));
      ahead = subst (λ n. AreGroups len list spans group.places.end (drop n groups)) (sym size) at.2;
    }

pub returns-clause-plan : goal.returns-clause-plan
returns-clause-plan c =
    let source = c.args.scanner.now.input in
    let spans = c.args.spans.now in
    let groups = groups_of (length source) (breaks_of source) spans in
    let k = length c.loop-first.plans.items in
    c.loop-first.invariant.plans
    ∙ ap (map (snippet_of c.args.tabs source (map ordered_view c.args.labels.now)))
    (take_all k groups (groups_at_end (length source) (breaks_of source) spans groups k c.loop-first.first c.loop-first.invariant.ahead c.loop-first-test.false))

pub returns-clause-stays : goal.returns-clause-stays
returns-clause-stays c = c.loop-first.invariant.scanner

pub returns-clause-first : goal.returns-clause-first
returns-clause-first c some = c.loop-first.invariant.set (omega (arith, some, c.loop-first-test.false))

pub returns-clause-keeps : goal.returns-clause-keeps
returns-clause-keeps c =
    let source = c.args.scanner.now.input in
    let spans = c.args.spans.now in
    let groups = groups_of (length source) (breaks_of source) spans in
    let k = length c.loop-first.plans.items in
    subst (All (KeepsGroup source spans c.loop-first.scanner))
    (take_all k groups (groups_at_end (length source) (breaks_of source) spans groups k c.loop-first.first c.loop-first.invariant.ahead c.loop-first-test.false))
    c.loop-first.invariant.keeps

use Rattle.std.proofs.Common.{◌≡◌, ◌∙◌, ℕ, [], ◌∷◌, Some, length, refl, sym, ap, subst, arith, append-nil, All, ⊎_elim}
use Rattle.std.specs.Option.{unwrap_or}
use Rattle.std.specs.declared.ops.Range.{Range}
use Rattle.std.proofs.lemmas.Bool.{cases_lt}
use Rattle.std.proofs.lemmas.List.Elements.{All-append, All-cons, All-nil}
use Rattle.oxc_windows.specs.Breaks.{breaks_of}
use Rattle.oxc_plan.specs.GroupRead.{IsGroupFrom}
use Rattle.oxc_plan.specs.Groups.{IsGroup, span_at}
use Rattle.oxc_plan.specs.Keeping.{KeepsGroup}
use Rattle.oxc_plan.specs.Order.{LieWithin}
use Rattle.oxc_plan.proofs.GroupsLemmas.{group_added, same_range}
use Rattle.oxc_plan.proofs.ScannedLemmas.{keeps_later, on_self, on_then, round_after}
use Rattle.oxc_plan.proofs.grouping.groups_of_spans.Goals as goal

pub loop-first-init : goal.loop-first-init
loop-first-init c = record {
  scanner = on_self c.args.scanner.now;
  none = λ e. refl;
  set = λ some. absurd (omega (arith, some));
  keeps = rw c.new-found.ensures.items (λ k d lt. absurd (omega arith));
  within = omega arith;
  ahead = λ rest are. rw c.new-found.ensures.items are;
}

pub group_read-requires-clause-round : goal.group_read-requires-clause-round
group_read-requires-clause-round c = round_after c.args.scanner.now c.loop-first.scanner c.loop-first.invariant.scanner c.requires.round

pub group_read-requires-clause-within : goal.group_read-requires-clause-within
group_read-requires-clause-within c =
    subst (λ source. LieWithin (length source) c.args.spans.now) (sym c.loop-first.invariant.scanner.same.input) c.requires.within

pub loop-first-preserved : goal.loop-first-preserved
loop-first-preserved c =
    let kept = c.loop-first.invariant in
    let source = c.args.scanner.now.input in
    let spans = c.args.spans.now in
    let first = c.loop-first.first in
    let group = c.in_ok-group.group in
    let past = group.places.end in
    let found : Range ℕ = record { start = first; end = past } in
    let read = subst (λ s. IsGroupFrom s spans first group) kept.scanner.same.input c.in_ok-group.ensures.group in
    let is = subst (λ s. IsGroup (length source) (breaks_of source) spans s past) read.from read.is in
    let keeps : Range ℕ → Type 0 = KeepsGroup source spans c.group_read.new.scanner in
    let here = subst keeps (same_range group.places found read.from refl) (subst (λ s. KeepsGroup s spans c.group_read.new.scanner group.places) kept.scanner.same.input c.in_ok-group.ensures.keeps) in
    record {
      scanner = on_then c.args.scanner.now c.loop-first.scanner _ kept.scanner c.in_ok-group.ensures.stays;
      none = λ e. absurd (omega (arith, e, is.some));
      set = λ some.
          ⊎_elim
          (λ later. c.in_ok-group.ensures.stays.first _ (kept.set later))
          (λ begin. let zero_first : first ≡ 0 = omega (arith, begin) in
          c.in_ok-group.ensures.first ∙ ap (λ o. Some (unwrap_or o (span_at spans first).start)) (kept.none zero_first)
          ∙ ap (λ k. Some (unwrap_or c.args.scanner.now.first (span_at spans k).start)) zero_first)
          (cases_lt 0 first);
      keeps = rw c.in_ok-push.ensures.items
          (All-append keeps c.loop-first.found.items (found ∷ [])
          (λ k d lt. keeps_later source c.loop-first.scanner _ _ _ c.in_ok-group.ensures.stays (kept.keeps k d lt))
          (All-cons keeps found [] here (All-nil keeps)));
      within = is.within;
      ahead = λ rest are. rw c.in_ok-push.ensures.items (group_added (length source) (breaks_of source) spans first past c.loop-first.found.items rest is kept.ahead are);
    }

pub returns-clause-groups : goal.returns-clause-groups
returns-clause-groups c =
    let kept = c.loop-first.invariant in
    let none : c.loop-first.first ≡ length c.args.spans.now = omega (arith, kept.within, c.loop-first-test.false) in
    rw append-nil at (kept.ahead [] none)

pub returns-clause-first : goal.returns-clause-first
returns-clause-first c some = c.loop-first.invariant.set (omega (arith, some, c.loop-first-test.false))

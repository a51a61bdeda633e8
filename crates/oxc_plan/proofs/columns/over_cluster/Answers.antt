use Rattle.std.proofs.Common.{◌≡◌, ◌<◌, ℕ, List, [], sym, ap, ◌∙◌, arith, refl, subst, length, get_or}
use Rattle.std.proofs.lemmas.Bool.Decides.{nat_tests}
use Rattle.oxc_plan.specs.Width.{moved}
use Rattle.oxc_plan.proofs.AsciiLemmas.{over_byte}
use Rattle.std.specs.Str.{chars, IsUtf8}
use Rattle.std.specs.Str.Iter.{chars_rest}
use Rattle.std.proofs.lemmas.Str.{IsUtf8-past_char, chars-nil}
use Rattle.std.proofs.lemmas.List.{nil_from_length}
use Rattle.oxc_plan.proofs.WidthLemmas.{char_step, one_char_less, few_chars}
use Rattle.oxc_plan.proofs.columns.over_cluster.Goals as goal

pub loop-c-init : goal.loop-c-init
loop-c-init c =
    let whole : chars_rest c.into_iter-c-iterator.result ≡ c.args.cluster.now = cc in
    record {
      can_next = tt;
      is_finite = tt;
      text = subst IsUtf8 (sym whole) c.utf8.cluster;
      ahead = rw (whole, c.width-lead.ensures.value) refl;
      room = rw whole (omega (arith, few_chars c.args.cluster.now c.utf8.cluster, c.width-lead.ensures.bound));
    }

pub loop-c-preserved : goal.loop-c-preserved
loop-c-preserved c =
    let step = c.in-Some.ensures.steps.0 in
    let kept = c.loop-c.invariant in
    record {
      can_next = tt;
      is_finite = tt;
      text = IsUtf8-past_char _ _ _ kept.text step;
      ahead = rw c.moved_over-pen.ensures.exact (char_step c.args.tabs c.loop-c.pen c.loop-c.lead c.in-Some.c _ _ kept.text step ∙ kept.ahead);
      room = omega (arith, kept.room, one_char_less c.in-Some.c _ _ kept.text step, c.moved_over-pen.ensures.bound);
    }

pub returns-clause-exact : goal.returns-clause-exact
returns-clause-exact c =
    let none : chars_rest c.loop-c.c-iterator ≡ [] = nil_from_length _ c.in-None.ensures.steps.0.0 in
    let done : chars (chars_rest c.loop-c.c-iterator) ≡ [] = ap chars none ∙ chars-nil in
    rw done at c.loop-c.invariant.ahead

pub returns-then-as_bytes-lt128-clause-exact : goal.returns-then-as_bytes-lt128-clause-exact
returns-then-as_bytes-lt128-clause-exact c =
    let one : length c.args.cluster.now ≡ 1 = grind (arith, nat_tests) in
    let raw : get_or c.as_bytes.result.now 0 0 < 128 = grind (arith, nat_tests) in
    let low : get_or c.args.cluster.now 0 0 < 128 = subst (λ (l : List ℕ). get_or l 0 0 < 128) c.as_bytes.ensures.value raw in
    c.moved_over.ensures.exact
    ∙ ap (λ (b : ℕ). moved c.args.tabs c.args.pen (1, b)) (c.from.ensures ∙ ap (λ (l : List ℕ). get_or l 0 0) c.as_bytes-then-as_bytes-lt128.ensures.value)
    ∙ over_byte c.args.tabs c.args.pen c.args.cluster.now one low

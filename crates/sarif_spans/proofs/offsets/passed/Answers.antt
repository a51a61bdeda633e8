-- Each character is passed.
use Rattle.std.proofs.Common.{◌≡◌, sym, ap, ◌∙◌, arith, subst}
use Rattle.std.specs.Str.{IsUtf8, chars}
use Rattle.std.specs.Str.Iter.{chars_rest}
use Rattle.std.proofs.lemmas.Str.{IsUtf8-past_char, IsCharBoundary-past_char, IsCharBoundary-start, drop_past_char}
use Rattle.sarif_spans.specs.Span.{passed}
use Rattle.sarif_spans.proofs.OffsetLemmas.{maps_zero, passed_all, passed_go, passed_short}
use Rattle.sarif_spans.proofs.offsets.passed.Goals as goal

pub loop-c-init : goal.loop-c-init
loop-c-init c =
    let whole : chars_rest c.into_iter-c-iterator.result ≡ c.args.text.now = cc in
    record {
      can_next = tt;
      is_finite = tt;
      utf8 = subst IsUtf8 (sym whole) c.utf8.text;
      place = sym whole;
      boundary = IsCharBoundary-start c.args.text.now c.utf8.text;
      value = maps_zero _ ∙ ap (λ t. passed c.args.count (chars t)) whole;
    }

pub loop-c-preserved : goal.loop-c-preserved
loop-c-preserved c =
    let kept = c.loop-c.invariant in
    let step = c.in-Some.ensures.steps.0 in
    let text = c.args.text.now in
    let at = c.loop-c.at in
    let here = kept.place ∙ step in
    record {
      can_next = tt;
      is_finite = tt;
      utf8 = IsUtf8-past_char _ _ _ kept.utf8 step;
      place = rw c.len_utf8-at.ensures.value (drop_past_char text _ at c.in-Some.c here);
      boundary = rw c.len_utf8-at.ensures.value (IsCharBoundary-past_char text _ at c.in-Some.c kept.boundary.0 (subst IsUtf8 (sym kept.place) kept.utf8) here);
      value =
          rw c.len_utf8-at.ensures.value
          (sym (passed_go at c.loop-c.left c.in-Some.c _ _ kept.utf8 step (omega (arith, c.if-left-eq0.false))) ∙ kept.value);
    }

pub returns-then-left-eq0-clause-value : goal.returns-then-left-eq0-clause-value
returns-then-left-eq0-clause-value c =
    sym (passed_all c.loop-c.at c.loop-c.left _ c.if-left-eq0.true) ∙ c.loop-c.invariant.value

pub returns-then-left-eq0-2-clause-value : goal.returns-then-left-eq0-2-clause-value
returns-then-left-eq0-2-clause-value c =
    sym (passed_all c.loop-c.at c.loop-c.left _ c.if-left-eq0-2.true) ∙ c.loop-c.invariant.value

pub returns-else-left-eq0-2-clause-value : goal.returns-else-left-eq0-2-clause-value
returns-else-left-eq0-2-clause-value c =
    sym (passed_short c.loop-c.at c.loop-c.left _ c.if-left-eq0-2.false c.in-None.ensures.steps.0.0) ∙ c.loop-c.invariant.value

-- Each character that fits is passed.
use Rattle.std.proofs.Common.{◌≡◌, ◌-◌, zero-add, sym, ap, ◌∙◌, arith, subst}
use Rattle.std.specs.Str.{IsUtf8, chars}
use Rattle.std.specs.Str.Iter.{chars_rest}
use Rattle.std.proofs.lemmas.Str.{IsUtf8-past_char, IsCharBoundary-past_char, IsCharBoundary-start, drop_past_char}
use Rattle.sarif_spans.specs.Span.{fitting}
use Rattle.sarif_spans.proofs.SpanLemmas.{fitting_end, fitting_go, fitting_stop}
use Rattle.sarif_spans.proofs.columns.column_at.Goals as goal

pub loop-c-init : goal.loop-c-init
loop-c-init c =
    let whole : chars_rest c.into_iter-c-iterator.result ≡ c.args.row.now = cc in
    record {
      can_next = tt;
      is_finite = tt;
      utf8 = subst IsUtf8 (sym whole) c.utf8.row;
      place = sym whole;
      boundary = IsCharBoundary-start c.args.row.now c.utf8.row;
      value = rw c.saturating_sub-left.ensures (zero-add _ ∙ ap (λ t. fitting c.args.kind (c.args.column - 1) (chars t)) whole);
    }

pub loop-c-preserved : goal.loop-c-preserved
loop-c-preserved c =
    let kept = c.loop-c.invariant in
    let step = c.in-Some.ensures.steps.0 in
    let row = c.args.row.now in
    let at = c.loop-c.at in
    let here = kept.place ∙ step in
    record {
      can_next = tt;
      is_finite = tt;
      utf8 = IsUtf8-past_char _ _ _ kept.utf8 step;
      place = rw c.len_utf8-at.ensures.value (drop_past_char row _ at c.in-Some.c here);
      boundary = rw c.len_utf8-at.ensures.value (IsCharBoundary-past_char row _ at c.in-Some.c kept.boundary.0 (subst IsUtf8 (sym kept.place) kept.utf8) here);
      value =
          (let go = fitting_go c.args.kind c.loop-c.left c.in-Some.c c.width-width.result _ _ kept.utf8 step c.width-width.ensures c.if-left-width.false in
          omega (arith, kept.value, go, c.len_utf8-at.ensures.value));
    }

pub returns-then-left-width-clause-value : goal.returns-then-left-width-clause-value
returns-then-left-width-clause-value c =
    let kept = c.loop-c.invariant in
    let stop = fitting_stop c.args.kind c.loop-c.left c.in-Some.c c.width-width.result _ _ kept.utf8 c.in-Some.ensures.steps.0 c.width-width.ensures c.if-left-width.true in
    omega (arith, kept.value, stop)

pub returns-clause-value : goal.returns-clause-value
returns-clause-value c =
    let kept = c.loop-c.invariant in
    let none = fitting_end c.args.kind c.loop-c.left (chars_rest c.loop-c.c-iterator) c.in-None.ensures.steps.0.0 in
    omega (arith, kept.value, none)

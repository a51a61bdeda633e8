-- A row more at each break.
use Rattle.std.proofs.Common.{◌≡◌, ◌+◌, ◌-◌, ◌<◌, ◌≤◌, [], ◌∷◌, ◌++◌, ◌∙◌, append_assoc, drop, length, take, sym, ap, subst, map, arith}
use Rattle.std.specs.List.{All}
use Rattle.std.proofs.lemmas.List.Elements.{All-nil, All-push}
use Rattle.std.proofs.lemmas.List.{take_rest}
use Rattle.std.specs.Str.{IsCharBoundary}
use Rattle.std.proofs.lemmas.Str.{IsCharBoundary-from_take}
use Rattle.sarif_spans.specs.Rows.{BeginsWithText, IsRowOf, break_len, row_at, rows_from, rows_in}
use Rattle.sarif_spans.proofs.RowLemmas.{row_fits, rows_break, rows_end, rows_on, text_ends, text_starts}
use Rattle.sarif_spans.proofs.rows.rows_of.Goals as goal

pub loop-at-init : goal.loop-at-init
unfolding rows_in
loop-at-init c =
    let mark = c.mark_len-start.ensures in
    record {
      within = omega arith;
      start = IsCharBoundary-from_take c.args.text.now c.mark_len-start.result c.utf8.text mark.whole.within mark.whole.utf8;
      cut = subst (All (IsRowOf c.args.text.now)) (sym c.new-rows.ensures.items) (All-nil (IsRowOf c.args.text.now));
      value = rw c.new-rows.ensures.items (ap (λ n. rows_from (map (λ it. it.now) c.args.breaks.now) n 0 0 c.args.text.now) mark.value);
    }

pub loop-at-preserved-then-width-eq0 : goal.loop-at-preserved-then-width-eq0
loop-at-preserved-then-width-eq0 c =
    let kept = c.loop-at.invariant in
    let text = c.args.text.now in
    let at = c.loop-at.at in
    let breaks = map (λ it. it.now) c.args.breaks.now in
    let bytes = c.as_bytes.result.now in
    let rest : take (length bytes - at) (drop at bytes) ≡ drop at text = take_rest bytes at ∙ ap (drop at) c.as_bytes.ensures.value in
    let none : break_len breaks (drop at text) ≡ 0 = ap (break_len breaks) (sym rest) ∙ sym c.width_at-width.ensures.value ∙ c.if-width-eq0.true in
    let within : at < length text = omega arith in
    record {
      within = omega arith;
      start = kept.start;
      cut = kept.cut;
      value = ap (λ more. c.loop-at.rows.items ++ more) (sym (rows_on breaks c.loop-at.start at text within none)) ∙ kept.value;
    }

pub loop-at-preserved : goal.loop-at-preserved
loop-at-preserved c =
    let kept = c.loop-at.invariant in
    let text = c.args.text.now in
    let at = c.loop-at.at in
    let start = c.loop-at.start in
    let width = c.width_at-width.result in
    let rows = c.loop-at.rows.items in
    let breaks = map (λ it. it.now) c.args.breaks.now in
    let bytes = c.as_bytes.result.now in
    let rest : take (length bytes - at) (drop at bytes) ≡ drop at text = take_rest bytes at ∙ ap (drop at) c.as_bytes.ensures.value in
    let wide : break_len breaks (drop at text) ≡ width = ap (break_len breaks) (sym rest) ∙ sym c.width_at-width.ensures.value in
    let whole : BeginsWithText (drop at text) width = subst (λ front. BeginsWithText front width) rest c.width_at-width.ensures.whole in
    let within : at < length text = omega arith in
    let upto : at ≤ length text = omega (arith, within) in
    let some : 0 < width = omega (arith, c.if-width-eq0.false) in
    let begins : IsCharBoundary text at = text_starts text at width upto some whole in
    let ends : IsCharBoundary text (at + width) = text_ends text at width c.utf8.text begins whole in
    let pushed : c.push.new.self.items ≡ rows ++ row_at start at ∷ [] = c.in_ok-push.ensures.items ∙ ap (λ row. rows ++ row ∷ []) c.row_between.ensures in
    let left = rows_from breaks (at + width) (at + width) 0 (drop (at + width) text) in
    record {
      within = ends.0;
      start = ends;
      cut = subst (All (IsRowOf text)) (sym pushed) (All-push (IsRowOf text) rows (row_at start at) kept.cut (row_fits text start at kept.start begins));
      value =
          ap (λ items. items ++ left) pushed
          ∙ append_assoc rows (row_at start at ∷ []) left
          ∙ ap (λ more. rows ++ more) (sym (rows_break breaks start at width text within wide some ends.0))
          ∙ kept.value;
    }

pub returns-clause-rows : goal.returns-clause-rows
returns-clause-rows c =
    let text = c.args.text.now in
    let at = c.loop-at.at in
    let start = c.loop-at.start in
    let rows = c.loop-at.rows.items in
    let breaks = map (λ it. it.now) c.args.breaks.now in
    let past : length text ≤ at = omega arith in
    let pushed : c.push-2.new.self.items ≡ rows ++ row_at start at ∷ [] = c.in_ok-push-2.ensures.items ∙ ap (λ row. rows ++ row ∷ []) c.row_between-2.ensures in
    pushed ∙ ap (λ more. rows ++ more) (sym (rows_end breaks start at text past)) ∙ c.loop-at.invariant.value

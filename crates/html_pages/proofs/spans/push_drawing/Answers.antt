-- A part is written, and what is left comes next.
use Rattle.std.proofs.Common.{rules, ◌≡◌, ◌++◌, OnOk, string_bytes, ap, ap₂, subst, sym, ◌∙◌, append_assoc}
use Rattle.html_pages.specs.Escaped.{escaped_text}
use Rattle.html_pages.specs.Spans.{Outside, closing, has_begun, mark_of, spans_from, spans_text, tags}
use Rattle.html_pages.proofs.SpanLemmas.{last_part, next_part, no_more}
use Rattle.html_pages.proofs.spans.push_drawing.Goals as goal

pub returns-in_default-cut : goal.returns-in_default-cut
returns-in_default-cut c =
    let old = string_bytes c.loop-front.out in
    let begun = c.loop-front.begun in
    let whole : string_bytes c.push_text.new.out ++ closing begun ≡ string_bytes c.args.out.now ++ spans_text c.args.drawing.now =
    ap (λ l. l ++ closing begun) c.in_ok-push_text.ensures ∙ append_assoc old (escaped_text c.in-Some.front.now) (closing begun)
    ∙ ap (λ l. old ++ l) (sym (last_part begun c.loop-front.rest.now c.in-Some.front.now c.in-Some.more.now c.in-Some.ensures c.in_default-cut.ensures)) ∙ c.loop-front.invariant.1 in
    subst (λ l. OnOk c.push_end.result (string_bytes c.push_end.new.out ≡ l)) whole c.push_end.ensures

pub loop-front-preserved : goal.loop-front-preserved
loop-front-preserved c =
    let old = string_bytes c.loop-front.out in
    let begun = c.loop-front.begun in
    let s = c.in-Some-cut.sequence.now in
    let next = c.in-Some-cut.next.now in
    let front = escaped_text c.in-Some.front.now in
    let text : string_bytes c.push_mark.new.out ≡ (old ++ front) ++ tags begun (mark_of s) =
    c.in_ok-begun.ensures.text ∙ ap₂ (λ l m. l ++ tags begun m) c.in_ok-push_text.ensures c.mark_of.ensures in
    let now : c.in_ok-begun.begun ≡ has_begun begun (mark_of s) = c.in_ok-begun.ensures.begun ∙ ap (has_begun begun) c.mark_of.ensures in
    let left = spans_from (has_begun begun (mark_of s)) Outside next in (
      search rules,
      ap₂ (λ l b. l ++ spans_from b Outside next) text now ∙ append_assoc (old ++ front) (tags begun (mark_of s)) left ∙ append_assoc old front (tags begun (mark_of s) ++ left)
          ∙ ap (λ l. old ++ l) (sym (next_part begun c.loop-front.rest.now c.in-Some.front.now c.in-Some.more.now s next c.in-Some.ensures c.in-Some-cut.ensures)) ∙ c.loop-front.invariant.1,
    )

pub returns : goal.returns
returns c =
    let old = string_bytes c.loop-front.out in
    let begun = c.loop-front.begun in
    let whole : string_bytes c.push_text-2.new.out ++ closing begun ≡ string_bytes c.args.out.now ++ spans_text c.args.drawing.now =
    ap (λ l. l ++ closing begun) c.in_ok-push_text-2.ensures ∙ append_assoc old (escaped_text c.loop-front.rest.now) (closing begun)
    ∙ ap (λ l. old ++ l) (sym (no_more begun c.loop-front.rest.now c.in_default.ensures)) ∙ c.loop-front.invariant.1 in
    subst (λ l. OnOk c.push_end-2.result (string_bytes c.push_end-2.new.out ≡ l)) whole c.push_end-2.ensures

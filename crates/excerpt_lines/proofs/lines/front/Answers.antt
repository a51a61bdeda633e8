-- A line begins with blanks, and perhaps an item.
use Rattle.std.proofs.Common.{List, [], ◌∷◌, ◌++◌, subst, sym, ap, ◌∙◌, arith, slice_index}
use Rattle.excerpt_lines.specs.declared.items.Item.{Item}
use Rattle.excerpt_lines.specs.Lines.{IsFront}
use Rattle.excerpt_lines.proofs.ItemLemmas.{front_none, front_one}
use Rattle.excerpt_lines.proofs.TextLemmas.{no_blank_is_ink}
use Rattle.excerpt_lines.proofs.lines.front.Goals as goal

pub returns-then-start-text : goal.returns-then-start-text
returns-then-start-text c =
    subst (λ (items : List Item). IsFront c.args.line.now c.args.part c.args.text items) (sym c.new-items.ensures.items)
    (front_none _ _ _ _ c.if-start-text.true c.first_ink-start.ensures.each)

pub returns : goal.returns
returns c =
    subst (λ (items : List Item). IsFront c.args.line.now c.args.part c.args.text items)
    (sym (c.in_ok-push_item.ensures ∙ ap (λ (items : List Item). items ++ c.item_over.result ∷ []) c.new-items.ensures.items))
    (front_one _ _ _ _ c.item_over.result c.requires.part c.if-start-text.false c.requires.within c.first_ink-start.ensures.each (no_blank_is_ink (slice_index c.args.line.now c.first_ink-start.result) (c.first_ink-start.ensures.stops (omega arith))) c.item_over.ensures)

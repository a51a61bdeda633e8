-- It doesn't stand at this byte.
use Rattle.std.proofs.Common.{◌∙◌, ◌+◌, ap, arith, drop, nat_eq, sym}
use Rattle.std.proofs.lemmas.List.{drop-drop, length-drop}
use Rattle.std.specs.List.{starts_with}
use Rattle.xml_values.specs.Marks.{mark_at}
use Rattle.xml_values.proofs.MarkLemmas.{mark_here, mark_later}
use Rattle.xml_values.proofs.marks.mark_at.Goals as goal

pub loop-at-preserved : goal.loop-at-preserved
loop-at-preserved c =
    let at = c.loop-at.at in
    let bytes = c.args.bytes.now in
    let mark = c.args.mark.now in
    c.loop-at.invariant
    ∙ mark_later mark (drop at bytes) at (omega (arith, length-drop at bytes, c.loop-at-test.true)) (ap (λ rest. starts_with nat_eq rest mark) (sym c.split_at.ensures.back) ∙ sym c.starts_with.ensures.value ∙ c.if-starts_with.false)
    ∙ ap (mark_at mark (at + 1)) (drop-drop 1 at bytes)

pub returns-then-starts_with-clause-value : goal.returns-then-starts_with-clause-value
returns-then-starts_with-clause-value c =
    let at = c.loop-at.at in
    let bytes = c.args.bytes.now in
    let mark = c.args.mark.now in
    sym (
    c.loop-at.invariant
    ∙ mark_here mark (drop at bytes) at (omega (arith, length-drop at bytes, c.loop-at-test.true)) (ap (λ rest. starts_with nat_eq rest mark) (sym c.split_at.ensures.back) ∙ sym c.starts_with.ensures.value ∙ c.if-starts_with.true)
    )

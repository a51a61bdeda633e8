use Rattle.std.proofs.Common.{◌≡◌, ◌-◌, take, sym, ap, ◌∙◌, arith}
use Rattle.source_edit.specs.Edits.{after_edits}
use Rattle.source_edit.proofs.AllLemmas.{back_one, back_all}
use Rattle.source_edit.proofs.edit_text.EditText.step_back_by.Goals as goal

pub loop-init : goal.loop-init
loop-init c before changes size e = e ∙ ap (after_edits before) (sym (back_all before changes c.args.count size))

pub loop-preserved : goal.loop-preserved
loop-preserved c before changes size e =
    back_one c.loop.self c.step_back.new.self before changes c.loop.counter c.args.count c.step_back.result c.step_back.ensures size c.loop-test.true (c.loop.invariant before changes size e)

pub returns : goal.returns
returns c before changes size e =
    let none : c.args.count - c.loop.counter ≡ 0 = omega (arith, c.loop-test.false) in
    c.loop.invariant before changes size e ∙ ap (λ n. after_edits before (take n changes)) none

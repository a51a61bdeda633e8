use Rattle.std.proofs.Common.{◌≡◌, ◌<◌, ◌∙◌, ℕ, get_or, ap, length, take, sym, arith}
use Rattle.std.proofs.lemmas.List.{take_all}
use Rattle.oxc_plan.specs.Width.{text_width}
use Rattle.oxc_plan.proofs.MeasuringLemmas.{have_all, have_more}
use Rattle.oxc_plan.proofs.measuring.push_at_end.Goals as goal

pub loop-pen-preserved : goal.loop-pen-preserved
loop-pen-preserved c =
    let have = c.loop-pen.invariant in
    let tab = c.args.tabs in
    let text = c.args.text.now in
    let items = c.loop-pen.columns.items in
    let lt : length items < length c.args.places.now = omega (arith, c.loop-pen-test.true, c.len.ensures, c.loop-pen.columns.ok.0) in
    let place : ℕ = get_or c.args.places.now (length items) 0 in
    let end = c.requires.boundaries (length items) 0 lt in
    let whole : take place text ≡ text = take_all place text (have.ahead lt) in
    rw c.in_ok-push.ensures.items
    (have_more tab text c.args.places.now items (length text) c.args.pen.column 0 c.requires.ascend have lt (c.requires.through ∙ ap (text_width tab) (sym whole)) c.requires.small)

pub returns : goal.returns
returns c =
    have_all c.args.tabs c.args.text.now c.args.places.now c.loop-pen.columns.items (length c.args.text.now) c.loop-pen.invariant
    (omega (arith, c.loop-pen-test.false, c.len.ensures, c.loop-pen.columns.ok.0))

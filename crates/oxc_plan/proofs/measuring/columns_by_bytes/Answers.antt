use Rattle.std.proofs.Common.{◌≡◌, ◌*◌, ◌<◌, ◌≤◌, ◌∙◌, ℕ, [], ◌∷◌, ◌++◌, get_or, length-append, ap, length, refl, sym, slice_range, take, arith}
use Rattle.unicode_segmentation.proofs.TextLemmas.{length-slice_range}
use Rattle.oxc_plan.specs.Width.{at_margin, pen_after, text_width}
use Rattle.oxc_plan.proofs.AsciiLemmas.{pen_further, take_ascii, width_ascii}
use Rattle.oxc_plan.proofs.MeasuringLemmas.{have_all, have_further, have_more, have_none}
use Rattle.oxc_plan.proofs.measuring.columns_by_bytes.Goals as goal

pub loop-place-init : goal.loop-place-init
unfolding pen_after
loop-place-init c = record { have = rw c.new-columns.ensures.items (have_none c.args.tabs c.args.text.now c.args.places.now); index = ap length c.new-columns.ensures.items; pen = refl; offset = omega arith; small = omega arith }

pub loop-place-preserved : goal.loop-place-preserved
loop-place-preserved c =
    let kept = c.loop-place.invariant in
    let tab = c.args.tabs in
    let text = c.args.text.now in
    let places = c.args.places.now in
    let i = c.loop-place.place-index in
    let columns = c.loop-place.columns.items in
    let place : ℕ = get_or places i 0 in
    let lt : i < length places = c.loop-place-test.true in
    let more : length columns < length places = omega (arith, kept.index, lt) in
    let within = (c.requires.boundaries i 0 lt).0 in
    let from : c.loop-place.offset ≤ place = omega (arith, kept.have.ahead more, ap (λ k. get_or places k 0) kept.index) in
    let pen : c.pen_over-pen.result ≡ pen_after tab at_margin (take place text) =
    c.pen_over-pen.ensures.exact
    ∙ ap (λ bytes. pen_after tab c.loop-place.pen (slice_range bytes c.loop-place.offset place)) c.as_bytes.ensures.value
    ∙ ap (λ p. pen_after tab p (slice_range text c.loop-place.offset place)) kept.pen
    ∙ pen_further tab at_margin text c.loop-place.offset place from in
    let small : c.pen_over-pen.result.column ≤ 17 * place = omega (arith, c.pen_over-pen.ensures.bound, kept.small, length-slice_range c.as_bytes.result.now c.loop-place.offset place (omega (arith, within, c.as_bytes.ensures.len)), from) in
    let here : get_or places (length columns) 0 ≡ place = ap (λ k. get_or places k 0) kept.index in
    let width : c.pen_over-pen.result.column ≡ text_width tab (take (get_or places (length columns) 0) text) =
    ap (λ p. p.column) pen ∙ width_ascii tab (take place text) (take_ascii text place c.requires.ascii) ∙ ap (λ k. text_width tab (take k text)) (sym here) in
    let have = have_more tab text places columns c.loop-place.offset c.pen_over-pen.result.column 0 c.requires.ascend kept.have more width (omega (arith, small, within)) in
    record {
      have = rw c.in_ok-push.ensures.items
          (have_further tab text places _ c.loop-place.offset place have
          (λ later. omega (arith, here, c.requires.ascend (length columns) (length (columns ++ c.pen_over-pen.result.column ∷ [])) 0 (omega (arith, length-append columns (c.pen_over-pen.result.column ∷ []))) later)));
      index = omega (arith, c.in_ok-push.ensures.len, kept.index);
      pen = pen;
      offset = within;
      small = small;
    }

pub returns : goal.returns
returns c =
    have_all c.args.tabs c.args.text.now c.args.places.now c.loop-place.columns.items c.loop-place.offset c.loop-place.invariant.have
    (omega (arith, c.loop-place.invariant.index, c.loop-place-test.false))

use Rattle.std.proofs.Common.{◌≡◌, ◌+◌, ◌-◌, ◌*◌, ◌<◌, ◌≤◌, ◌∙◌, ℕ, fold, get_or, ap, length, slice_range, take, List, arith}
use Rattle.oxc_plan.specs.Width.{led, moved, text_width}
use Rattle.oxc_plan.proofs.MeasuringLemmas.{cut_in, have_more, width_in}
use Rattle.oxc_plan.proofs.measuring.push_within.Goals as goal

pub range-part-requires-clause-end_boundary : goal.range-part-requires-clause-end_boundary
range-part-requires-clause-end_boundary c =
    let have = c.loop-columns.invariant in
    let n = c.len-in-loop-columns-2.result in
    let items = c.loop-columns.columns.items in
    let size : n ≡ length items = omega (arith, c.len-in-loop-columns-2.ensures, c.loop-columns.columns.ok.0) in
    let lt : n < length c.args.places.now = omega (arith, c.loop-columns-test.true, c.len.ensures, c.len-in-loop-columns-2.ensures) in
    let same : n ≡ c.len-in-loop-columns.result = omega (arith, c.len-in-loop-columns.ensures, c.len-in-loop-columns-2.ensures) in
    let place : ℕ = get_or c.args.places.now n 0 in
    let from : c.args.offset ≤ place = omega (arith, have.ahead (omega (arith, size, lt)), ap (λ k. get_or c.args.places.now k 0) size) in
    let upto : place < c.args.offset + length c.args.cluster.now = omega (arith, c.if-places-len.true, ap (λ k. get_or c.args.places.now k 0) same) in
    cut_in c.args.tabs c.args.text.now c.args.offset c.args.pen c.args.cluster.now c.requires.through.0 place c.utf8.text c.utf8.cluster c.requires.through.1 from (omega (arith, upto)) (c.requires.boundaries n 0 lt)

front : (xs : List ℕ) (k : ℕ) → slice_range xs 0 k ≡ take k xs
front xs k = let all : k - 0 ≡ k = omega arith in ap (λ n. take n xs) all

pub loop-columns-preserved : goal.loop-columns-preserved
loop-columns-preserved c =
    let have = c.loop-columns.invariant in
    let tab = c.args.tabs in
    let text = c.args.text.now in
    let n = c.len-in-loop-columns-2.result in
    let items = c.loop-columns.columns.items in
    let size : n ≡ length items = omega (arith, c.len-in-loop-columns-2.ensures, c.loop-columns.columns.ok.0) in
    let lt : n < length c.args.places.now = omega (arith, c.loop-columns-test.true, c.len.ensures, c.len-in-loop-columns-2.ensures) in
    let same : n ≡ c.len-in-loop-columns.result = omega (arith, c.len-in-loop-columns.ensures, c.len-in-loop-columns-2.ensures) in
    let place : ℕ = get_or c.args.places.now n 0 in
    let here : place ≡ get_or c.args.places.now (length items) 0 = ap (λ k. get_or c.args.places.now k 0) size in
    let from : c.args.offset ≤ place = omega (arith, have.ahead (omega (arith, size, lt)), here) in
    let upto : place < c.args.offset + length c.args.cluster.now = omega (arith, c.if-places-len.true, ap (λ k. get_or c.args.places.now k 0) same) in
    let boundary = c.requires.boundaries n 0 lt in
    let width : c.over_cluster.result.column ≡ text_width tab (take (get_or c.args.places.now (length items) 0) text) =
    ap (λ p. p.column) c.over_cluster.ensures.exact
    ∙ ap (λ l. (fold (moved tab) c.args.pen (led l)).column) (c.range-part.ensures.value ∙ front c.args.cluster.now (place - c.args.offset))
    ∙ width_in tab text c.args.offset c.args.pen c.args.cluster.now c.requires.through.0 place c.utf8.text c.requires.through.1 from (omega (arith, upto)) boundary
    ∙ ap (λ k. text_width tab (take k text)) here in
    let small : c.over_cluster.result.column ≤ 18 * length text = omega (arith, c.over_cluster.ensures.bound, c.requires.small, c.range-part.ensures.len, boundary.0, from) in
    rw c.in_ok-push.ensures.items (have_more tab text c.args.places.now items c.args.offset c.over_cluster.result.column 0 c.requires.ascend have (omega (arith, size, lt)) width small)

-- The pieces that are known were drawn.
use Rattle.std.proofs.Common.{◌≡◌, Bor, Vec, Global, ℕ, List, None, map, take, drop, string_bytes, ap, sym, subst, ◌∙◌}
use Rattle.std.proofs.lemmas.List.{take-append-drop, take-map}
use Rattle.line_shapes.specs.Shape.{shape_parts}
use Rattle.tool_lines.specs.Lines.{ArePieces, piece_parts}
use Rattle.drawn_lines.specs.Seam.{BarePieces}
use Rattle.drawn_lines.proofs.SeamLemmas.{all_bare}
use Rattle.drawn_lines.specs.Named.{name_texts, renamed_by}
use Rattle.drawn_lines.proofs.ComingLemmas.{looks_from}
use Rattle.drawn_lines.proofs.NamedLemmas.{named_draws}
use Rattle.drawn_lines.proofs.coming.look_at.Goals as goal

pub draw_with-requires-clause-bare : goal.draw_with-requires-clause-bare
draw_with-requires-clause-bare g c =
    let shapes = map shape_parts c.args.shapes.now in
    let lines = map (λ (line : Bor (List ℕ)). line.now) c.in_ok-lines.lines.items in
    let pieces = c.in_ok-pieces.pieces.items in
    let count = c.in-Some.part.pieces in
    let are = rw c.deref.ensures.value at c.in_ok-pieces.ensures in
    let front : map piece_parts c.split_at.result.0.now ≡ take count (map piece_parts pieces) =
    ap (map piece_parts) (c.split_at.ensures.front ∙ ap (take count) c.deref-in-Some.ensures.value) ∙ sym (take-map piece_parts count pieces) in
    subst BarePieces (sym front)
    (all_bare shapes None lines (take count (map piece_parts pieces)) (drop count (map piece_parts pieces))
    (subst (ArePieces shapes None lines) (sym (take-append-drop count (map piece_parts pieces))) are))

pub draw_with-requires-clause-each : goal.draw_with-requires-clause-each
draw_with-requires-clause-each g c = rw c.deref-in-Some-4.ensures.value c.in_ok-named-in-Some.ensures.each

pub returns-in-Some : goal.returns-in-Some
returns-in-Some g c =
    let drawn = c.in_ok-drawn-in-Some.drawn in
    let pieces = c.in_ok-pieces.pieces.items in
    let are = rw c.deref.ensures.value at c.in_ok-pieces.ensures in
    let part = rw (c.deref-2.ensures.value, c.deref-3.ensures.value) at c.in-Some.ensures.part in
    let full = rw (c.deref-2.ensures.value, c.deref-3.ensures.value) at c.in-Some.ensures.full in
    let named = c.in_ok-named-in-Some.named in
    let front = map piece_parts c.split_at.result.0.now in
    let lines = map (λ (line : Bor (List ℕ)). line.now) c.in_ok-lines.lines.items in
    let came = map (λ (line : Vec ℕ Global). line.items) c.args.came.now in
    let seeks = rw c.deref-in-Some-2.ensures.value at c.in_ok-named-in-Some.ensures.seeks in
    let drew = rw (c.deref-in-Some-3.ensures.value, c.deref-in-Some-4.ensures.value) at c.in_ok-drawn-in-Some.ensures in
    let draws = named_draws (g.S.Store.told c.args.store.now) c.args.asked.now c.args.tally named.tally drawn.tally lines came front (renamed_by (name_texts named.names.items) front)
    (string_bytes drawn.text) (string_bytes drawn.aside) seeks drew in
    looks_from (g.S.Store.told c.args.store.now) c.args.asked.now c.args.tally drawn.tally (map shape_parts c.args.shapes.now)
    (map (λ (line : Bor (List ℕ)). line.now) c.in_ok-lines.lines.items) (map (λ (line : Vec ℕ Global). line.items) c.args.lines.now)
    (map (λ (line : Vec ℕ Global). line.items) c.args.came.now) (map piece_parts pieces)
    (map piece_parts c.split_at.result.0.now) c.in-Some.part (string_bytes drawn.text) (string_bytes drawn.aside) c.requires c.in_ok-lines.ensures are (part are) full
    (ap (map piece_parts) (c.split_at.ensures.front ∙ ap (take c.in-Some.part.pieces) c.deref-in-Some.ensures.value)
    ∙ sym (take-map piece_parts c.in-Some.part.pieces pieces)) draws

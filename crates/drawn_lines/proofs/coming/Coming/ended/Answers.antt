-- What is left was written, and behind it stands how many there were.
use Rattle.std.proofs.Common.{◌++◌, [], append-nil, Bor, Vec, Global, ℕ, List, None, map, string_bytes, subst, refl, sym, ap, ◌∙◌}
use Rattle.line_shapes.specs.Shape.{shape_parts}
use Rattle.tool_lines.specs.Lines.{ArePieces, piece_parts}
use Rattle.drawn_lines.specs.Coming.{IsDrawn}
use Rattle.drawn_lines.specs.Counts.{ending_by}
use Rattle.drawn_lines.proofs.SeamLemmas.{all_bare}
use Rattle.drawn_lines.specs.Named.{name_texts, renamed_by}
use Rattle.drawn_lines.proofs.ComingLemmas.{all_drawn}
use Rattle.drawn_lines.proofs.NamedLemmas.{named_draws}
use Rattle.drawn_lines.proofs.coming.Coming.ended.Goals as goal

pub draw_with-requires-clause-bare : goal.draw_with-requires-clause-bare
draw_with-requires-clause-bare g c =
    let shapes = map shape_parts c.args.shapes.now in
    let lines = map (λ (line : Bor (List ℕ)). line.now) c.in_ok-lines.lines.items in
    let pieces = map piece_parts c.in_ok-pieces.pieces.items in
    let cut = rw c.deref-2.ensures.value at c.in_ok-pieces.ensures in
    rw c.deref-8.ensures.value (all_bare shapes None lines pieces [] (subst (ArePieces shapes None lines) (sym (append-nil pieces)) cut))

pub draw_with-requires-clause-each : goal.draw_with-requires-clause-each
draw_with-requires-clause-each g c = rw (c.deref-7.ensures.value, c.deref-8.ensures.value) (rw c.deref-4.ensures.value at c.in_ok-named.ensures.each)

pub returns : goal.returns
returns g c = λ taken text aside coming.
    let told = g.S.Store.told c.args.store.now in
    let asked = c.args.asked.now in
    let drawn = c.in_ok-drawn.drawn in
    let all = c.in_ok-held.held in
    let end = ending_by asked drawn.tally.count drawn.tally.again in
    let lines = map (λ (line : Bor (List ℕ)). line.now) c.in_ok-lines.lines.items in
    let pieces = map piece_parts c.in_ok-pieces.pieces.items in
    let cut = rw c.deref-2.ensures.value at c.in_ok-pieces.ensures in
    let are = subst (λ shapes. ArePieces shapes None lines pieces) c.requires cut in
    let named = c.in_ok-named.named in
    let came = map (λ (line : Vec ℕ Global). line.items) all.came.items in
    let seeks = rw (c.deref-3.ensures.value, c.deref-4.ensures.value) at c.in_ok-named.ensures.seeks in
    let drew = rw (c.deref-5.ensures.value, c.deref-6.ensures.value, c.deref-7.ensures.value, c.deref-8.ensures.value) at c.in_ok-drawn.ensures in
    let draws = named_draws told asked c.args.self.tally named.tally drawn.tally lines came pieces (renamed_by (name_texts named.names.items) pieces)
    (string_bytes drawn.text) (string_bytes drawn.aside) seeks drew in
    let lines_are = c.in_ok-lines.ensures ∙ ap (map (λ (line : Vec ℕ Global). line.items)) c.deref.ensures.value in
    let said = c.as_str.ensures.value ∙ c.in_ok-ending.ensures in
    let pushed = c.in_ok-push_str.ensures.bytes ∙ ap (λ t. string_bytes drawn.text ++ t) said in
    subst (λ b. IsDrawn told asked taken (text ++ b) (aside ++ string_bytes drawn.aside) c.reaches-reached.result) (sym pushed)
    (subst (λ r. IsDrawn told asked taken (text ++ (string_bytes drawn.text ++ end)) (aside ++ string_bytes drawn.aside) r) (sym c.reaches-reached.ensures)
    (all_drawn told asked taken text aside (string_bytes drawn.text) (string_bytes drawn.aside) end c.args.self.held all c.args.self.tally drawn.tally lines pieces lines_are
    c.in_ok-held.ensures.came c.in_ok-held.ensures.read are draws refl coming))

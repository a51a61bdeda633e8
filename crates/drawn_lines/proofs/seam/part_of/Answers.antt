-- The place before the last line, or the last with two lines behind it.
use Rattle.std.proofs.Common.{Bor, ℕ, List, map, sym, subst}
use Rattle.std.specs.Prelude.{IfSome}
use Rattle.std.proofs.lemmas.List.{length-map}
use Rattle.line_shapes.specs.Shape.{shape_parts}
use Rattle.tool_lines.specs.Lines.{piece_parts}
use Rattle.drawn_lines.specs.Seam.{IsGap}
use Rattle.drawn_lines.proofs.SeamLemmas.{gap_found}
use Rattle.drawn_lines.proofs.seam.part_of.Goals as goal

pub returns-in-None-clause-part : goal.returns-in-None-clause-part
returns-in-None-clause-part c = λ are.
    let shapes = map shape_parts c.args.shapes.now in
    let lines = map (λ (line : Bor (List ℕ)). line.now) c.args.lines.now in
    let pieces = map piece_parts c.args.pieces.now in
    gap_found shapes lines pieces c.gap_in.result are
    (subst (λ n. IfSome c.gap_in.result (IsGap pieces n)) (sym (length-map c.args.lines.now (λ (line : Bor (List ℕ)). line.now))) c.gap_in.ensures.gap)

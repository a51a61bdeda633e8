-- The place before the last line.
use Rattle.std.proofs.Common.{◌-◌, Bor, ℕ, List, map, ap₂, ◌∙◌, sym, ap, subst}
use Rattle.std.proofs.lemmas.List.{length-map}
use Rattle.line_shapes.specs.Shape.{shape_parts}
use Rattle.tool_lines.specs.Lines.{piece_parts}
use Rattle.drawn_lines.specs.Seam.{IsPart}
use Rattle.drawn_lines.specs.declared.seam.Part.{Part}
use Rattle.drawn_lines.proofs.SeamLemmas.{end_is, part_stays}
use Rattle.drawn_lines.proofs.seam.end_part.Goals as goal

pub returns-then-ends_known-clause-part : goal.returns-then-ends_known-clause-part
returns-then-ends_known-clause-part c = λ are.
    let shapes = map shape_parts c.args.shapes.now in
    let lines = map (λ (line : Bor (List ℕ)). line.now) c.args.lines.now in
    let pieces = map piece_parts c.args.pieces.now in
    part_stays (IsPart shapes lines pieces) _ c.full_part.result c.full_part.ensures.same
    (subst (IsPart shapes lines pieces)
    (ap₂ (λ p l. let part : Part = record { pieces = p; lines = l } in part)
    (ap (λ n. n - 1) (length-map c.args.pieces.now piece_parts) ∙ sym c.saturating_sub.ensures)
    (ap (λ n. n - 1) (length-map c.args.lines.now (λ (line : Bor (List ℕ)). line.now)) ∙ sym c.saturating_sub-then-ends_known.ensures))
    (end_is shapes lines pieces are (c.ends_known.ensures c.if-ends_known.true)))

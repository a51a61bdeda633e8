-- The blocks are the first ones.
use Rattle.std.proofs.Common.{◌≡◌, ◌∙◌, Bor, ℕ, List, false, map, ap, sym}
use Rattle.std.proofs.lemmas.List.{take-map}
use Rattle.tool_lines.specs.Lines.{piece_parts}
use Rattle.drawn_lines.specs.Parting.{waits}
use Rattle.drawn_lines.proofs.seam.full_part.Goals as goal

pub returns-else-waits-clause-full : goal.returns-else-waits-clause-full
returns-else-waits-clause-full c =
    let lines = map (λ (line : Bor (List ℕ)). line.now) c.args.lines.now in
    ap (waits false lines) (take-map piece_parts c.args.part.pieces c.args.pieces.now ∙ ap (map piece_parts) (sym c.front.ensures)) ∙ (sym c.waits.ensures ∙ c.if-waits.false)

-- What is held of lines that come one at a time.
use Rattle.std.specs.Prelude.{ℕ, List, map, Option, option_map}
use Rattle.fed_lines.specs.declared.lines.Lines.{Lines}
use Rattle.line_shapes.specs.Shape.{ShapeParts, shape_parts}

-- the lines that are held, the name that is given to them, and the shapes
abbrev pub held_lines : Lines → List (List ℕ)
held_lines lines = map (λ line. line.items) lines.held.items

abbrev pub held_name : Lines → Option (List ℕ)
held_name lines = option_map (λ line. line.items) lines.name

abbrev pub held_shapes : Lines → List ShapeParts
held_shapes lines = map shape_parts lines.shapes.now

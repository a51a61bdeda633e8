-- The user's own shapes.
use Rattle.line_shapes.specs.declared.parse.OwnShape.{OwnShape}
use Rattle.line_shapes.specs.Shape.{ShapeParts}

abbrev pub own_parts : OwnShape → ShapeParts
own_parts shape = record { lead = shape.lead.items; kind = shape.kind; after = shape.after.items }

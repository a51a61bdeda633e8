-- Shapes of a tool's or the user's own.
use Rattle.std.specs.Prelude.{ℕ, ◌-◌, if◌then◌else◌, List, length, drop, Option, None, option_map, option_and_then}
use Rattle.std.specs.List.{range_with_len}
use Rattle.line_shapes.specs.declared.part.Part.{Part}
use Rattle.line_shapes.specs.declared.shape.Shape.{Shape}
use Rattle.line_shapes.specs.Part.{Seen, before, fit}
use Rattle.line_shapes.specs.declared.name.NameKind.{NameKind}
use Rattle.line_shapes.specs.Name.{is_name}
use Rattle.line_shapes.specs.Place.{Place, first_some, named}
use Rattle.line_shapes.specs.Said.{whole}

-- the parts before the name, what it is, and the parts behind it
pub record ShapeParts : Type 0 where
  pub lead : List Part
  pub kind : NameKind
  pub after : List Part

abbrev pub shape_parts : Shape → ShapeParts
shape_parts shape = record { lead = shape.lead.now; kind = shape.kind; after = shape.after.now }

-- the place whose name begins here and has so many bytes
unfoldable pub own_at : NameKind → List Part → Seen → ℕ → Option Place
own_at kind after s end =
    if is_name kind s.rest end then option_map (named s end) (whole after (record s { rest = drop end s.rest })) else None

-- the one with the shortest name
unfoldable pub first_named : NameKind → List Part → Seen → Option Place
first_named kind after s = first_some (own_at kind after s) (range_with_len 1 (length s.rest - 1))

-- the place of a line that is these parts, a name and those parts
abbrev pub own : NameKind → List Part → List Part → List ℕ → Option Place
own kind lead after line = option_and_then (first_named kind after) (fit lead (before line))

-- the place of a line, of the first of these shapes that it fits as a whole
abbrev pub first_own : List ShapeParts → List ℕ → Option Place
first_own shapes line = first_some (λ shape. own shape.kind shape.lead shape.after line) shapes

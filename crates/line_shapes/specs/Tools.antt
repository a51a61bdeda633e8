-- What is known of tools that are named.
use Rattle.std.specs.Prelude.{ℕ, if◌then◌else◌, Bool, List, [], ◌∷◌, map, Option, Some, None}
use Rattle.std.specs.Borrow.{Bor}
use Rattle.line_shapes.specs.declared.name.NameKind.{NameKind}
use Rattle.line_shapes.specs.declared.part.Part.{Part}
use Rattle.line_shapes.specs.declared.tables.Unit.{Unit}
use Rattle.line_shapes.specs.declared.tool_tables.TheConstants.{TOOL_COLUMNS, TOOL_SHAPES}
use Rattle.line_shapes.specs.declared.tools.Columns.{Columns}
use Rattle.line_shapes.specs.Parse.{same}
use Rattle.line_shapes.specs.Shape.{ShapeParts}

-- a row of the table: the tool's name, and a shape
abbrev pub tool_row : Bor (List ℕ) × Bor (List ℕ) × Bor (List Part) × NameKind × Bor (List Part) → List ℕ × ShapeParts
tool_row row = (row.0.now, record { lead = row.2.now; kind = row.3; after = row.4.now })

unfoldable pub tools : List (List ℕ × ShapeParts)
tools = map (λ row. (row.0.now, record { lead = row.2.now; kind = row.3; after = row.4.now })) TOOL_SHAPES

-- the shapes of the rows that have this name, in their order
abbrev pub shapes_among : List (List ℕ × ShapeParts) → List ℕ → List ShapeParts
shapes_among [] name = []
shapes_among (row ∷ rows) name = if same row.0 name then row.1 ∷ shapes_among rows name else shapes_among rows name

-- the shapes of a tool
abbrev pub shapes_of : List ℕ → List ShapeParts
shapes_of tool = shapes_among tools tool

unfoldable pub tool_columns : List (List ℕ × Unit × ℕ × Bool)
tool_columns = map (λ row. (row.0.now, row.1, row.2, row.3)) TOOL_COLUMNS

-- the columns of the first row that has this name
abbrev pub columns_among : List (List ℕ × Unit × ℕ × Bool) → List ℕ → Option Columns
columns_among [] name = None
columns_among (row ∷ rows) name = if same row.0 name then Some (record { unit = row.1; first = row.2; with_end = row.3 }) else columns_among rows name

-- what the columns of a tool count
abbrev pub columns_of : List ℕ → Option Columns
columns_of tool = columns_among tool_columns tool

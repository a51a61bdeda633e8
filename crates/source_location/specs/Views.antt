-- A line as contracts see it.
use Rattle.std.specs.Prelude.{List, [], ◌∷◌, Option, Some, None}
use Rattle.source_location.specs.Lines.{LineView}
use Rattle.source_location.specs.declared.newlines.Line.{Line}

-- a line's bytes, and where it starts
abbrev pub line_view : Line → LineView
line_view line = record { text = line.text.now; start = line.offset }

-- those of a line that may be missing
abbrev pub line_views : Option Line → List LineView
line_views None = []
line_views (Some line) = line_view line ∷ []

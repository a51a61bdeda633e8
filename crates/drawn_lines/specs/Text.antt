-- The lines of a text that comes in parts.
use Rattle.std.specs.Prelude.{◌≡◌, ℕ, nat_eq, ◌==◌, Bool, true, false, List, [], ◌∷◌, ◌++◌, length, map, drop, unwrap_or, if◌then◌else◌}
use Rattle.std.specs.List.{slice_split, starts_with}
use Rattle.memchr.specs.Find.{is_byte}
use Rattle.line_shapes.specs.Bytes.{before_last}
use Rattle.tool_lines.specs.Lines.{lines_of as lines_in, without_cr}
use Rattle.tool_lines.specs.Paint.{unpainted}
use Rattle.drawn_lines.specs.declared.held.HeldLines.{HeldLines}

-- ---- the lines of a text

-- a text without an LF at its end
abbrev pub without_lf : List ℕ → List ℕ
without_lf text = unwrap_or (before_last 0x0A text) text

-- the lines of a text: a last LF ends one, and begins none
unfoldable pub lines_in_text : List ℕ → List (List ℕ)
lines_in_text text = if length text == 0 then [] else lines_in (without_lf text)

-- a text without a byte order mark before it
abbrev pub without_mark : List ℕ → List ℕ
without_mark bytes = if starts_with nat_eq bytes (0xEF ∷ 0xBB ∷ 0xBF ∷ []) then drop 3 bytes else bytes

-- those of a text without a mark and its paint
abbrev pub lines_of : List ℕ → List (List ℕ)
lines_of bytes = lines_in_text (unpainted (without_mark bytes))

-- ---- the same lines as they came, with their paint and a CR at their end

-- a line without its paint and a CR at its end
unfoldable pub read_line : List ℕ → List ℕ
read_line line = without_cr (unpainted line)

-- the last line doesn't count where nothing of it is left without its paint
abbrev pub without_bare_end : List (List ℕ) → List (List ℕ)
without_bare_end [] = []
without_bare_end (line ∷ []) = if length (unpainted line) == 0 then [] else line ∷ []
without_bare_end (line ∷ (next ∷ rest)) = line ∷ without_bare_end (next ∷ rest)

-- the first line has this before it
abbrev pub begun_with : List ℕ → List (List ℕ) → List (List ℕ)
begun_with front [] = front ∷ []
begun_with front (line ∷ rest) = (front ++ line) ∷ rest

-- the lines of a text, of which this came before
unfoldable pub came_behind : List ℕ → List ℕ → List (List ℕ)
came_behind front text = without_bare_end (begun_with front (slice_split (is_byte 0x0A) text))

-- those of a text that came whole: each of them read, they are `lines_of` it
abbrev pub came_of : List ℕ → List (List ℕ)
came_of bytes = came_behind [] (without_mark bytes)

-- ---- the lines of bytes that come

-- the lines that are held are those that came, each read
abbrev pub AreRead : HeldLines → Type 0
AreRead held = map (λ line. line.items) held.lines.items ≡ map read_line (map (λ line. line.items) held.came.items)

-- the lines of a text of which this came before: what came behind the last LF; or all, while it isn't begun, since it may be part of a mark
abbrev pub rest_to_come : Bool → List ℕ → List ℕ → List (List ℕ)
rest_to_come true front text = came_behind front text
rest_to_come false front text = came_of (front ++ text)

-- the lines that are held and those of a text to come, as they come
abbrev pub came_to_come : HeldLines → List ℕ → List (List ℕ)
came_to_come held more = map (λ line. line.items) held.came.items ++ rest_to_come held.begun held.tail.items more

-- the same where a line begins behind those that are held
abbrev pub goes_on : HeldLines → List ℕ → List (List ℕ)
goes_on held more = map (λ line. line.items) held.came.items ++ came_behind held.tail.items more

-- the same as they are read
abbrev pub to_come : HeldLines → List ℕ → List (List ℕ)
to_come held more = map read_line (came_to_come held more)

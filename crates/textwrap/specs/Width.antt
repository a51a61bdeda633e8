-- The width of a text on a screen, in cells.
use Rattle.std.specs.Prelude.{ℕ, ◌+◌, ◌==◌, ◌&&◌, ◌||◌, nat_le, false, List, fold, chars, if◌then◌else◌}
use Rattle.std.specs.Option.{unwrap_or}
use Rattle.unicode_width.specs.Width.{char_width}
use Rattle.textwrap.specs.declared.pen.Escape.{Escape}
use Rattle.textwrap.specs.declared.pen.Escape.TheVariants.{Outside, Begun, Control, Command, Ending}
use Rattle.textwrap.specs.declared.pen.Pen.{Pen}

-- where the character behind `c` stands: ESC begins a sequence, which ends with the next character,
-- or after ESC `[` with the first from `@` to `~`, or after ESC `]` with BEL or with ESC and a backslash
abbrev pub after : Escape → ℕ → Escape
after Outside c = if c == 0x1B then Begun else Outside
after Begun c = if c == 0x5B then Control else if c == 0x5D then Command else Outside
after Control c = if nat_le 0x40 c && nat_le c 0x7E then Outside else Control
after Command c = if c == 0x07 then Outside else if c == 0x1B then Ending else Command
after Ending c = if (c == 0x07) || (c == 0x5C) then Outside else if c == 0x1B then Ending else Command

-- the cells of a character: none within a sequence, none for a control (ESC is one), and else its width
abbrev pub cells : Escape → ℕ → ℕ
cells Outside c = unwrap_or (char_width false c) 0
cells _ c = 0

-- the pen behind a character
abbrev pub moved : Pen → ℕ → Pen
moved pen c = record { escape = after pen.escape c; width = pen.width + cells pen.escape c }

abbrev pub at_start : Pen
at_start = record { escape = Outside; width = 0 }

-- the pen behind a text
unfoldable pub pen_behind : List ℕ → Pen
pen_behind text = fold moved at_start (chars text)

-- the cells of a text
unfoldable pub display_width : List ℕ → ℕ
display_width text = (pen_behind text).width

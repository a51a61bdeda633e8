-- The lines of a diff, and parts of a line.
use Rattle.std.specs.Prelude.{ℕ, ◌+◌, ◌-◌, ◌==◌, not, nat_eq, List, [], length, take, drop, codes, if◌then◌else◌}
use Rattle.std.specs.List.{slice_split, prefix_len, ends_with}

-- the texts between LFs
abbrev pub all_lines : List ℕ → List (List ℕ)
all_lines diff = slice_split (λ b. b == 0x0A) diff

-- without an LF at the end
abbrev pub without_break : List ℕ → List ℕ
without_break text = if ends_with nat_eq text (codes "\n") then take (length text - 1) text else text

-- the lines of a text, each without its LF; nothing comes after the last LF
unfoldable pub lines_of : List ℕ → List (List ℕ)
lines_of diff = if length diff == 0 then [] else all_lines (without_break diff)

-- what a text has before the first of a byte
abbrev pub front_to : ℕ → List ℕ → List ℕ
front_to stop text = take (prefix_len (λ byte. not (byte == stop)) text) text

-- and what it has after it
abbrev pub back_from : ℕ → List ℕ → List ℕ
back_from stop text = drop (prefix_len (λ byte. not (byte == stop)) text + 1) text

-- without a CR at the end
abbrev pub without_return : List ℕ → List ℕ
without_return line = if ends_with nat_eq line (codes "\r") then take (length line - 1) line else line

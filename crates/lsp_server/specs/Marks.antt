-- Where offsets and marks lie after a change.
use Rattle.std.specs.Prelude.{◌≡◌, ℕ, ◌+◌, ◌-◌, ◌^◌, ◌==◌, ◌<◌, ◌≤◌, nat_lt, nat_le, not, ◌&&◌, if◌then◌else◌, List, Option, Some, None, length, take, drop}
use Rattle.std.specs.List.{replace_range}
use Rattle.std.specs.Str.{IsUtf8, IsCharBoundary}
use Rattle.lsp_server.specs.declared.marks.Change.{Change}
use Rattle.lsp_server.specs.declared.marks.Mark.{Mark}

-- an offset up to the change's start stays, one within goes there, and one from its end on shifts
abbrev pub moved_offset : Change → ℕ → ℕ
moved_offset change offset =
    if nat_le offset change.start then offset
    else if nat_lt offset change.end then change.start
    else offset - (change.end - change.start) + change.inserted

-- a mark's start, which what is inserted at its place pushes along
abbrev pub moved_start : Change → ℕ → ℕ
moved_start change offset =
    if (change.start == change.end) && (offset == change.start) then offset + change.inserted
    else moved_offset change offset

-- a mark's end; that of an empty mark is its start
abbrev pub moved_end : Change → Mark → ℕ
moved_end change mark =
    if mark.start == mark.end then moved_start change mark.start else moved_offset change mark.end

-- a mark that becomes empty goes; one that was empty stays
abbrev pub moved_mark : Change → Mark → Option Mark
moved_mark change mark =
    let start = moved_start change mark.start in
    let end = moved_end change mark in
    if (start == end) && not (mark.start == mark.end) then None else Some (record { start = start; end = end })

-- the mark's ends can shift
pub record HasRoom (change : Change) (mark : Mark) : Type 0 where
  pub starts : mark.start + change.inserted < 2 ^ 64
  pub ends : mark.end + change.inserted < 2 ^ 64

-- an offset in a text of `len` bytes goes to one in the text after the change
abbrev pub StaysInside : Change → ℕ → ℕ → ℕ → Type 0
StaysInside change len offset new = offset ≤ len → change.end ≤ len → new + (change.end - change.start) ≤ len + change.inserted

-- offsets keep their order
abbrev pub MovesInOrder : Type 0
MovesInOrder = (change : Change) (a b : ℕ) → change.start ≤ change.end → a ≤ b → moved_offset change a ≤ moved_offset change b

-- the text after the change, where `piece` came in
abbrev pub changed : Change → List ℕ → List ℕ → List ℕ
changed change piece text = replace_range text change.start change.end piece

-- a range of a text gives way to a piece
pub record IsChangeOf (change : Change) (piece text : List ℕ) : Type 0 where
  pub ordered : change.start ≤ change.end
  pub within : change.end ≤ length text
  pub inserted : change.inserted ≡ length piece

-- before an offset that stays the text is what it was, and behind one that shifts
pub record KeepsText (change : Change) (piece text : List ℕ) (offset : ℕ) : Type 0 where
  pub before : offset ≤ change.start → take (moved_offset change offset) (changed change piece text) ≡ take offset text
  pub behind : change.start < offset → change.end ≤ offset → drop (moved_offset change offset) (changed change piece text) ≡ drop offset text

abbrev pub MovesWithText : Type 0
MovesWithText = (change : Change) (piece text : List ℕ) (offset : ℕ) → IsChangeOf change piece text → offset ≤ length text
    → KeepsText change piece text offset

-- a change between characters
pub record CutsNone (change : Change) (piece text : List ℕ) : Type 0 where
  pub is : IsChangeOf change piece text
  pub whole : IsUtf8 text
  pub new : IsUtf8 piece
  pub start : IsCharBoundary text change.start
  pub end : IsCharBoundary text change.end

-- an offset at which a character starts, or the text ends, goes to one
abbrev pub KeepsBoundaries : Type 0
KeepsBoundaries = (change : Change) (piece text : List ℕ) (offset : ℕ) → CutsNone change piece text → IsCharBoundary text offset
    → IsCharBoundary (changed change piece text) (moved_offset change offset)

-- a mark's ends stay in order, and at boundaries
pub record KeepsMark (change : Change) (piece text : List ℕ) (mark : Mark) : Type 0 where
  pub order : moved_start change mark.start ≤ moved_end change mark
  pub start : IsCharBoundary (changed change piece text) (moved_start change mark.start)
  pub end : IsCharBoundary (changed change piece text) (moved_end change mark)

abbrev pub KeepsMarks : Type 0
KeepsMarks = (change : Change) (piece text : List ℕ) (mark : Mark) → CutsNone change piece text → mark.start ≤ mark.end
    → IsCharBoundary text mark.start → IsCharBoundary text mark.end → KeepsMark change piece text mark

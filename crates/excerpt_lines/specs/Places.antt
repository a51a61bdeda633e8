-- Lines that have a location or begin a note.
use Rattle.std.specs.Prelude.{◌≡◌, ℕ, ◌+◌, ◌-◌, ◌<◌, ◌≤◌, ◌==◌, ◌||◌, ◌&&◌, nat_lt, if◌then◌else◌, Bool, true, List, [], ◌∷◌, length, drop, slice_index, slice_range, Option, Some, None, MatchOption}
use Rattle.excerpt_lines.specs.declared.tables.CharClass.TheVariants.{Blank, Ink, Space, Digit, Trail}
use Rattle.excerpt_lines.specs.declared.tables.NoteKind.{NoteKind}
use Rattle.excerpt_lines.specs.declared.tables.NoteKind.TheVariants.{Note as NoteWord}
use Rattle.excerpt_lines.specs.declared.gutter.Sign.{Sign}
use Rattle.excerpt_lines.specs.declared.gutter.Sign.TheVariants.{Unsigned, Added, Removed, Changed}
use Rattle.excerpt_lines.specs.declared.places.NoteForm.{NoteForm}
use Rattle.excerpt_lines.specs.declared.places.NoteForm.TheVariants.{Led, Margin, Indented}
use Rattle.excerpt_lines.specs.declared.places.Note.{Note}
use Rattle.excerpt_lines.specs.declared.places.Place.{Place}
use Rattle.excerpt_lines.specs.Tables.{arrow_len, begins, is_capital_note, is_in, kind_of_word, leader_len, word_len}
use Rattle.excerpt_lines.specs.Runs.{EachIn, first_ink, run_end}
use Rattle.excerpt_lines.specs.Gutter.{lead_len, number_of, sign_of, text_at}

-- a colon and a number between two places
pub record IsNumberBefore (line : List ℕ) (at end colon value : ℕ) : Type 0 where
  pub from : at ≤ colon
  pub colon_is : slice_index line colon ≡ 0x3A
  pub some : colon + 1 < end
  pub digits : EachIn Digit line (colon + 1) end
  pub value_is : number_of (slice_range line (colon + 1) end) ≡ Some value

abbrev pub HasNoNumberBefore : List ℕ → ℕ → ℕ → Type 0
HasNoNumberBefore line at end = (colon value : ℕ) → IsNumberBefore line at end colon value → ⊥

-- where the name after an arrow begins
abbrev pub name_at : List ℕ → ℕ
name_at line = run_end Space line (first_ink line + arrow_len (drop (first_ink line) line))

-- the numbers of a place, of which the last ends here: all that there are, two at most
abbrev pub AreNumbers : List ℕ → Place → ℕ → Type 0
AreNumbers line p end = MatchOption p.column
    (IsNumberBefore line p.name end p.name_end p.line × HasNoNumberBefore line p.name p.name_end)
    (λ column. (colon : ℕ) × IsNumberBefore line p.name end colon column × IsNumberBefore line p.name colon p.name_end p.line)

-- some characters that neither begin nor end with a blank
pub record IsName (line : List ℕ) (name name_end : ℕ) : Type 0 where
  pub some : name < name_end
  pub first : is_in Ink (slice_index line name) ≡ true
  pub last : is_in Ink (slice_index line (name_end - 1)) ≡ true

abbrev pub HasNoName : List ℕ → ℕ → ℕ → Type 0
HasNoName line name name_end = IsName line name name_end → ⊥

pub record IsNamed (line : List ℕ) (name name_end number : ℕ) (column : Option ℕ) (p : Place) : Type 0 where
  pub named : IsName line name name_end
  pub name_is : p.name ≡ name
  pub end_is : p.name_end ≡ name_end
  pub line_is : p.line ≡ number
  pub column_is : p.column ≡ column

-- blanks, an arrow, spaces, a name, one or two numbers, and what may follow: the parts give the line again
pub record IsPlace (line : List ℕ) (p : Place) : Type 0 where
  pub arrow : 0 < arrow_len (drop (first_ink line) line)
  pub name_is : p.name ≡ name_at line
  pub named : IsName line p.name p.name_end
  pub end : ℕ
  pub within : end ≤ length line
  pub numbers : AreNumbers line p end
  pub trail : EachIn Trail line end (length line)

abbrev pub HasNoPlace : List ℕ → Type 0
HasNoPlace line = (p : Place) → IsPlace line p → ⊥

abbrev pub is_over : ℕ → Bool
is_over next = next == 0x20 || next == 0

abbrev pub kind_before : List ℕ → ℕ → Option NoteKind → Option NoteKind
kind_before line at None = None
kind_before line at (Some kind) = if is_over (slice_index line (at + word_len kind + 1)) then Some kind else None

-- the kind that is named at a place, before a colon, and a blank or the end
abbrev pub kind_at : List ℕ → ℕ → Option NoteKind
kind_at line at = kind_before line at (kind_of_word (drop at line))

abbrev pub note_with : NoteForm → ℕ → Option NoteKind → Option Note
note_with form at None = None
note_with form at (Some kind) = Some (record { form = form; kind = kind; text = at + word_len kind + 2 })

-- the note whose kind is named at a place
unfoldable pub noted : NoteForm → List ℕ → ℕ → Option Note
noted form line at = note_with form at (kind_at line at)

-- the note after a leader that begins at a place
unfoldable pub led_at : List ℕ → ℕ → Option Note
led_at line start = let leader = leader_len (drop start line) in if leader == 0 then None else noted Led line (start + leader)

unfoldable pub capital_at : List ℕ → ℕ → Option Note
capital_at line text = if is_capital_note (drop text line) then noted Led line text else None

abbrev pub first_note : Option Note → Option Note → Option Note
first_note None other = other
first_note (Some note) other = Some note

abbrev pub note_by_sign : List ℕ → ℕ → Option Sign → Option Note
note_by_sign line bar None = None
note_by_sign line bar (Some Unsigned) = first_note (led_at line (text_at line bar)) (capital_at line (text_at line bar))
note_by_sign line bar (Some Added) = None
note_by_sign line bar (Some Removed) = None
note_by_sign line bar (Some Changed) = None

-- the note in a gutter without a number
unfoldable pub note_in_gutter : List ℕ → Option Note
note_in_gutter line = let bar = run_end Blank line (lead_len line) in note_by_sign line bar (sign_of (slice_index line bar) (slice_index line (bar + 1)))

-- the note after `= ` without a kind, which is not at the beginning of the line
unfoldable pub plain_note : List ℕ → ℕ → Option Note
plain_note line start =
    if nat_lt 0 start && begins (drop start line) (0x3D ∷ 0x20 ∷ []) then Some (record { form = Led; kind = NoteWord; text = start + 2 }) else None

-- the note that a line begins: after a leader, in a gutter, after `= `, at its beginning, or after two blanks
unfoldable pub note_in : List ℕ → Option Note
note_in line =
    first_note (led_at line (first_ink line)) (first_note (note_in_gutter line) (first_note (plain_note line (first_ink line))
    (first_note (noted Margin line 0) (if first_ink line == 2 then noted Indented line 2 else None))))

-- What drawings are made of.
use Rattle.std.specs.Prelude.{ℕ, ◌==◌, ◌&&◌, ◌||◌, not, nat_eq, nat_le, if◌then◌else◌, Bool, true, false, List, [], ◌∷◌, Option, Some, None, codes}
use Rattle.std.specs.List.{list_any, starts_with}
use Rattle.std.specs.Char.{to_ascii_lowercase}
use Rattle.excerpt_lines.specs.declared.tables.CharClass.{CharClass}
use Rattle.excerpt_lines.specs.declared.tables.CharClass.TheVariants.{Blank, Ink, Space, Digit, Bar, Caret, Dash, Plus, Thick, Thin, Triangle, Underscore, First, Frame, Loose, Trail, Margin}
use Rattle.excerpt_lines.specs.declared.tables.NoteKind.{NoteKind}
use Rattle.excerpt_lines.specs.declared.tables.NoteKind.TheVariants.{Note, Help, Hint, Warning, Error, Info, Suggestion, Advice}
use Rattle.excerpt_lines.specs.declared.tables.TheConstants.{FRAME}

unfoldable pub is_frame : ℕ → Bool
is_frame c = list_any (λ one. one == c) FRAME

-- a character is of a class
abbrev pub is_in : CharClass → ℕ → Bool
is_in Blank c = c == 0x20 || c == 0x09
is_in Ink c = not (c == 0x20) && not (c == 0x09)
is_in Space c = c == 0x20
is_in Digit c = nat_le 0x30 c && nat_le c 0x39
is_in Bar c = c == 0x7C || c == 0x2502 || c == 0x2503 || c == 0xB7 || c == 0x2506
is_in Caret c = c == 0x5E || c == 0x7E
is_in Dash c = c == 0x2D
is_in Plus c = c == 0x2B
is_in Thick c = c == 0x2501
is_in Thin c = c == 0x2500 || c == 0x252C
is_in Triangle c = c == 0x25B2
is_in Underscore c = c == 0x5F
is_in First c = c == 0x5E || c == 0x2501 || c == 0x25B2 || c == 0x252C
is_in Frame c = c == 0x20 || c == 0x09 || is_frame c
is_in Loose c = c == 0x20 || c == 0x09 || c == 0x5E || c == 0x7E || c == 0x2D || c == 0x2B || c == 0x5F || c == 0x3D
is_in Trail c = c == 0x20 || c == 0x3A || c == 0x5D || c == 0x2500
is_in Margin c = c == 0x20 || c == 0x7C

-- the class of marks that a character is of
abbrev pub class_of : ℕ → Option CharClass
class_of c =
    if is_in Caret c then Some Caret
    else if is_in Dash c then Some Dash
    else if is_in Plus c then Some Plus
    else if is_in Thick c then Some Thick
    else if is_in Thin c then Some Thin
    else if is_in Triangle c then Some Triangle
    else None

-- how a hook goes on after its first character
abbrev pub hook_of : ℕ → Option CharClass
hook_of c = if c == 0x2570 then Some Thin else if c == 0x251C then Some Thin else if c == 0x2514 then Some Thin else if c == 0x60 then Some Dash else None

abbrev pub begins : List ℕ → List ℕ → Bool
begins text front = starts_with nat_eq text front

-- the length of the arrow before a place
unfoldable pub arrow_len : List ℕ → ℕ
arrow_len text =
    if begins text (0x2D ∷ 0x2D ∷ 0x3E ∷ 0x20 ∷ []) || begins text (0x3A ∷ 0x3A ∷ 0x3A ∷ 0x20 ∷ []) then 4
    else if begins text (0x256D ∷ 0x25B8 ∷ 0x20 ∷ []) || begins text (0x2E2C ∷ 0x20 ∷ 0x20 ∷ [])
    || begins text (0x250C ∷ 0x2500 ∷ 0x20 ∷ []) || begins text (0x256D ∷ 0x2500 ∷ 0x5B ∷ [])
    || begins text (0x2C ∷ 0x2D ∷ 0x5B ∷ []) then 3
    else 0

-- the length of the leader before a note
unfoldable pub leader_len : List ℕ → ℕ
leader_len text = if begins text (0x3D ∷ 0x20 ∷ []) || begins text (0x251C ∷ 0x20 ∷ []) || begins text (0x2570 ∷ 0x20 ∷ []) then 2 else 0

-- a note that needs no leader in a drawing
unfoldable pub is_capital_note : List ℕ → Bool
is_capital_note text = begins text (codes "Note: ") || begins text (codes "Help: ")

-- a text begins with a word in small letters, in any case
abbrev pub spells : List ℕ → List ℕ → Bool
spells text [] = true
spells [] (small ∷ word) = false
spells (c ∷ text) (small ∷ word) = if to_ascii_lowercase c == small then spells text word else false

-- a small letter begins the word of a kind
abbrev pub is_first_of_kind : ℕ → Bool
is_first_of_kind c = c == 0x6E || c == 0x68 || c == 0x77 || c == 0x65 || c == 0x69 || c == 0x73 || c == 0x61

-- the kind that the word before a colon means
unfoldable pub kind_of_word : List ℕ → Option NoteKind
kind_of_word text =
    if spells text (codes "note:") then Some Note
    else if spells text (codes "help:") then Some Help
    else if spells text (codes "hint:") then Some Hint
    else if spells text (codes "warning:") then Some Warning
    else if spells text (codes "error:") then Some Error
    else if spells text (codes "info:") then Some Info
    else if spells text (codes "suggestion:") then Some Suggestion
    else if spells text (codes "advice:") then Some Advice
    else None

abbrev pub word_len : NoteKind → ℕ
word_len Note = 4
word_len Help = 4
word_len Hint = 4
word_len Warning = 7
word_len Error = 5
word_len Info = 4
word_len Suggestion = 10
word_len Advice = 6

-- Lines that say that a build enters or leaves a directory.
use Rattle.std.specs.Prelude.{◌≡◌, ◌⊎◌, ℕ, ◌==◌, ◌&&◌, ◌||◌, not, if◌then◌else◌, Bool, true, false, List, [], ◌∷◌, ◌++◌, length, codes, Option, Some, None, option_map, option_and_then}
use Rattle.std.specs.List.{list_all}
use Rattle.std.specs.Option.{option_or}
use Rattle.std.specs.Char.{is_ascii_alphanumeric}
use Rattle.escapes.specs.Cuts.{behind, cut_at, number_of, without_last}
use Rattle.build_dirs.specs.declared.changes.Change.{Change}

-- letters, digits, `_`, `.`, `+`, `-` and `/`
abbrev pub is_program_byte : ℕ → Bool
is_program_byte byte = is_ascii_alphanumeric byte || (byte == 0x5F) || (byte == 0x2E) || (byte == 0x2B) || (byte == 0x2D) || (byte == 0x2F)

unfoldable pub is_program : List ℕ → Bool
is_program text = not (length text == 0) && list_all is_program_byte text

-- nothing, or a number in brackets
abbrev pub IsLevel : List ℕ → ℕ → Type 0
IsLevel text level = ((text ≡ []) × (level ≡ 0)) ⊎ ((digits : List ℕ) × ((text ≡ 0x5B ∷ (digits ++ 0x5D ∷ [])) × (number_of digits ≡ Some level)))

pub record IsHead (head program : List ℕ) (level : ℕ) : Type 0 where
  pub program_is : is_program program ≡ true
  pub text : List ℕ
  pub level_is : IsLevel text level
  pub whole : head ≡ program ++ text

abbrev pub HasNoHead : List ℕ → Type 0
HasNoHead head = (program : List ℕ) (level : ℕ) → IsHead head program level → ⊥

abbrev pub verb : Bool → List ℕ
verb true = codes " Entering directory "
verb false = codes " Leaving directory "

abbrev pub IsVerb : List ℕ → Bool → List ℕ → Type 0
IsVerb says opens rest = says ≡ verb opens ++ rest

abbrev pub HasNoVerb : List ℕ → Type 0
HasNoVerb says = (opens : Bool) (rest : List ℕ) → IsVerb says opens rest → ⊥

-- what is after a quote, and before one
abbrev pub is_open : ℕ → Bool
is_open byte = (byte == 0x27) || (byte == 0x60) || (byte == 0x22)

abbrev pub is_close : ℕ → Bool
is_close byte = (byte == 0x27) || (byte == 0x22)

abbrev pub IsOpened : List ℕ → List ℕ → Type 0
IsOpened text rest = (quote : ℕ) × ((is_open quote ≡ true) × (text ≡ quote ∷ rest))

abbrev pub HasNoOpen : List ℕ → Type 0
HasNoOpen text = (rest : List ℕ) → IsOpened text rest → ⊥

abbrev pub IsClosed : List ℕ → List ℕ → Type 0
IsClosed text front = (quote : ℕ) × ((is_close quote ≡ true) × (text ≡ front ++ quote ∷ []))

abbrev pub HasNoClose : List ℕ → Type 0
HasNoClose text = (front : List ℕ) → IsClosed text front → ⊥

pub record IsPath (quoted path : List ℕ) : Type 0 where
  pub opening : ℕ
  pub closing : ℕ
  pub opening_is : is_open opening ≡ true
  pub closing_is : is_close closing ≡ true
  pub some : length path ≡ 0 → ⊥
  pub whole : quoted ≡ opening ∷ (path ++ closing ∷ [])

abbrev pub HasNoPath : List ℕ → Type 0
HasNoPath quoted = (path : List ℕ) → IsPath quoted path → ⊥

-- `PROGRAM[N]: Entering directory 'D'`
pub record IsChange (line program : List ℕ) (level : ℕ) (opens : Bool) (path : List ℕ) : Type 0 where
  pub head : List ℕ
  pub says : List ℕ
  pub quoted : List ℕ
  pub whole : line ≡ head ++ 0x3A ∷ says
  pub head_is : IsHead head program level
  pub verb_is : IsVerb says opens quoted
  pub path_is : IsPath quoted path

abbrev pub IsNoChange : List ℕ → Type 0
IsNoChange line = (program : List ℕ) (level : ℕ) (opens : Bool) (path : List ℕ) → IsChange line program level opens path → ⊥

-- ---- the same as a value

-- what a line says of a directory
pub record ChangeParts : Type 0 where
  pub program : List ℕ
  pub level : ℕ
  pub opens : Bool
  pub path : List ℕ

abbrev pub change_parts : Change → ChangeParts
change_parts change = record { program = change.program.now; level = change.level; opens = change.opens; path = change.path.now }

abbrev pub head_by : List ℕ → Option (List ℕ × List ℕ) → Option (List ℕ × ℕ)
head_by head None = if is_program head then Some (head, 0) else None
head_by head (Some cut) = if is_program cut.0 then option_map (λ level. (cut.0, level)) (option_and_then number_of (without_last 0x5D cut.1)) else None

-- the program and the level that a head says
unfoldable pub head_of : List ℕ → Option (List ℕ × ℕ)
head_of head = head_by head (cut_at 0x5B head)

-- whether a directory is entered, and what follows
unfoldable pub verb_of : List ℕ → Option (Bool × List ℕ)
verb_of says = option_or (option_map (λ rest. (true, rest)) (behind (verb true) says)) (option_map (λ rest. (false, rest)) (behind (verb false) says))

unfoldable pub opened : List ℕ → Option (List ℕ)
opened text = option_or (behind (0x27 ∷ []) text) (option_or (behind (0x60 ∷ []) text) (behind (0x22 ∷ []) text))

unfoldable pub closed : List ℕ → Option (List ℕ)
closed text = option_or (without_last 0x27 text) (without_last 0x22 text)

abbrev pub some_text : List ℕ → Option (List ℕ)
some_text text = if length text == 0 then None else Some text

-- the path between quotes
unfoldable pub path_in : List ℕ → Option (List ℕ)
path_in quoted = option_and_then some_text (option_and_then closed (opened quoted))

abbrev pub change_by : Option (List ℕ × ℕ) → Option (Bool × List ℕ) → Option ChangeParts
change_by None verb = None
change_by (Some head) None = None
change_by (Some head) (Some verb) = option_map (λ path. record { program = head.0; level = head.1; opens = verb.0; path = path }) (path_in verb.1)

-- the change of which a line is the line
unfoldable pub change_of : List ℕ → Option ChangeParts
change_of line = option_and_then (λ it. change_by (head_of it.0) (verb_of it.1)) (cut_at 0x3A line)

-- The values of an input.
use Rattle.std.specs.Prelude.{◌≡◌, ◌⊎◌, ⊤, ℕ, List, [], ◌∷◌, ◌++◌, drop, codes, decimal, Option, Some, None, option_and_then, if◌then◌else◌, string_bytes}
use Rattle.std.specs.Str.{is_utf8}
use Rattle.json.specs.Json.{Json, null, boolean, number, string, array, object, Items, no_items, item, document}
use Rattle.json_forms.specs.declared.cut.Piece.{Piece}
use Rattle.json_forms.specs.Cut.{IsCut, array_text}
use Rattle.json_inputs.specs.declared.error.InputError.{InputError}
use Rattle.json_inputs.specs.declared.error.InputError.TheVariants.{Refused, OutOfMemory}

abbrev pub items_in : Items → List Json
items_in no_items = []
items_in (item value rest) = value ∷ items_in rest

abbrev pub elements_in : Json → Option (List Json)
elements_in null = None
elements_in (boolean b) = None
elements_in (number text) = None
elements_in (string text) = None
elements_in (array items) = Some (items_in items)
elements_in (object ms) = None

abbrev pub json_in : List ℕ → Option Json
json_in bytes = if is_utf8 bytes then document bytes else None

abbrev pub elements_of : List ℕ → Option (List Json)
elements_of bytes = option_and_then elements_in (json_in bytes)

-- all values of an input are JSON, and are these
pub record AreValues (bytes : List ℕ) (values : List Json) : Type 0 where
  pub pieces : List Piece
  pub cut : IsCut bytes 0 pieces None
  pub elements : List Json
  pub read : elements_of (array_text bytes pieces) ≡ Some elements
  pub are : values ≡ drop 1 elements

-- ---- why there are none

-- the lines name a row and a column, no clause says which
pub record IsCutOff (line : List ℕ) : Type 0 where
  pub row : ℕ
  pub column : ℕ
  pub is : line ≡ codes "girzohal: line " ++ (decimal row ++ (codes ", column " ++ (decimal column ++ codes ": input ends in the JSON that begins here\n")))

pub record IsWrong (line : List ℕ) : Type 0 where
  pub row : ℕ
  pub column : ℕ
  pub is : line ≡ codes "girzohal: line " ++ (decimal row ++ (codes ", column " ++ (decimal column ++ codes ": input is no JSON\n")))

-- an input ends in a value, as the line says
pub record EndsInside (bytes line : List ℕ) : Type 0 where
  pub pieces : List Piece
  pub start : ℕ
  pub cut : IsCut bytes 0 pieces (Some start)
  pub line_is : IsCutOff line

-- its values are no JSON, as the line says
pub record HasNoJson (bytes line : List ℕ) : Type 0 where
  pub pieces : List Piece
  pub cut : IsCut bytes 0 pieces None
  pub none : elements_of (array_text bytes pieces) ≡ None
  pub line_is : IsWrong line

abbrev pub IsNoJson : List ℕ → List ℕ → Type 0
IsNoJson bytes line = EndsInside bytes line ⊎ HasNoJson bytes line

-- an error's line is P; out of memory is free
abbrev pub SaysRefused : (List ℕ → Type 0) → InputError → Type 0
SaysRefused P (Refused line) = P (string_bytes line)
SaysRefused P OutOfMemory = ⊤

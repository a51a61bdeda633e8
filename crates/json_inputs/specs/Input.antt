-- What an input's values say.
use Rattle.std.specs.Prelude.{◌≡◌, ℕ, List, [], ◌∷◌, ◌++◌, length, map, nat_lt, string_bytes, Bool, if◌then◌else◌, Option, Some, None, option_map}
use Rattle.std.specs.Option.{option_or}
use Rattle.json.specs.Json.{Json}
use Rattle.json_forms.specs.declared.told.Forms.{Forms}
use Rattle.json_forms.specs.Finding.{Finding, finding_view}
use Rattle.json_forms.specs.Read.{Reading, first_refusal}
use Rattle.json_forms.specs.Values.{answers, reading_of}
use Rattle.json_inputs.specs.declared.input.Said as code_said
use Rattle.json_inputs.specs.Told.{IsRefusalLine, Located, told_of}

-- findings, and what is told beside them
pub record Said : Type 0 where
  pub findings : List Finding
  pub told : List ℕ

abbrev pub nothing_said : Said
nothing_said = record { findings = []; told = [] }

-- both, in order
abbrev pub with_said : Said → Said → Said
with_said a b = record { findings = a.findings ++ b.findings; told = a.told ++ b.told }

abbrev pub reading_said : Option ℕ → Reading → Said
reading_said row reading = record { findings = reading.found; told = told_of row reading }

-- what a value says by the form that it has
abbrev pub value_said : Forms → Option ℕ → Json → Said
value_said forms row value = reading_said row (reading_of forms value)

-- ---- the rows of values

abbrev pub first_row : List ℕ → Option ℕ
first_row [] = None
first_row (row ∷ rows) = Some row

abbrev pub rows_rest : List ℕ → List ℕ
rows_rest [] = []
rows_rest (row ∷ rows) = rows

-- a row is named if there are several values
abbrev pub row_named : Bool → List ℕ → Option ℕ
row_named named rows = if named then first_row rows else None

abbrev pub are_several : List Json → Bool
are_several values = nat_lt 1 (length values)

-- ---- all values

abbrev pub said_from : Forms → Bool → List ℕ → List Json → Said
said_from forms named rows [] = nothing_said
said_from forms named rows (value ∷ values) = with_said (value_said forms (row_named named rows) value) (said_from forms named (rows_rest rows) values)

-- what each value says, in order
unfoldable pub said_in : Forms → List ℕ → List Json → Said
said_in forms rows values = said_from forms (are_several values) rows values

abbrev pub refused_at : Forms → Option ℕ → Json → Option Located
refused_at forms row value = option_map (λ refusal. record { row = row; refusal = refusal }) (first_refusal (answers forms value))

abbrev pub refused_from : Forms → Bool → List ℕ → List Json → Option Located
refused_from forms named rows [] = None
refused_from forms named rows (value ∷ values) = option_or (refused_at forms (row_named named rows) value) (refused_from forms named (rows_rest rows) values)

-- the first refusal
unfoldable pub first_refused : Forms → List ℕ → List Json → Option Located
first_refused forms rows values = refused_from forms (are_several values) rows values

-- a value is refused, as the line says
pub record IsRefusedAt (forms : Forms) (row : Option ℕ) (value : Json) (line : List ℕ) : Type 0 where
  pub it : Located
  pub is : refused_at forms row value ≡ Some it
  pub line_is : IsRefusalLine it line

-- one of these values is refused, as the line says of the first such
pub record IsRefused (forms : Forms) (rows : List ℕ) (values : List Json) (line : List ℕ) : Type 0 where
  pub it : Located
  pub is : first_refused forms rows values ≡ Some it
  pub line_is : IsRefusalLine it line

-- ---- the code's values

abbrev pub said_view : code_said.Said → Said
said_view it = record { findings = map finding_view it.findings.items; told = string_bytes it.told }

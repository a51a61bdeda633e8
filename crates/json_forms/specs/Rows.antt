-- What the rows of a list say.
use Rattle.std.specs.Prelude.{ℕ, List, [], ◌∷◌, Bool, false, if◌then◌else◌, Option, Some, None, option_map, option_and_then, unwrap_or, map, find}
use Rattle.std.specs.Option.{option_or}
use Rattle.std.specs.Str.{bytes_eq}
use Rattle.json_spots.specs.declared.step.Path.{Path}
use Rattle.json_forms.specs.declared.form.Row.{Row}
use Rattle.json_forms.specs.declared.form.Row.TheVariants.{Part, Only, Aside, Level, Constant}
use Rattle.json_forms.specs.declared.form.Unit as code_unit
use Rattle.json_forms.specs.declared.form.Unit.TheVariants.{Characters}
use Rattle.json_forms.specs.declared.rows.TheConstants.{UNITS}
use Rattle.json_forms.specs.declared.keys.TheConstants as keys

abbrev pub paths_in : List ℕ → Row → Option (List Path)
paths_in key (Part own paths) = if bytes_eq own.now key then Some paths.items else None
paths_in key (Only guard) = None
paths_in key (Aside guard) = None
paths_in key (Level words) = None
paths_in key (Constant own word) = None

-- the paths of a part: those of its first row
abbrev pub part : List Row → List ℕ → List Path
part [] key = []
part (row ∷ rows) key = unwrap_or (paths_in key row) (part rows key)

abbrev pub word_in : List ℕ → Row → Option (List ℕ)
word_in key (Part own paths) = None
word_in key (Only guard) = None
word_in key (Aside guard) = None
word_in key (Level words) = None
word_in key (Constant own word) = if bytes_eq own.now key then Some word.now else None

-- the word of a constant: that of its first row
abbrev pub constant : List Row → List ℕ → Option (List ℕ)
constant [] key = None
constant (row ∷ rows) key = option_or (word_in key row) (constant rows key)

abbrev pub is_word : List ℕ → Option (List ℕ) → Bool
is_word word None = false
is_word word (Some own) = bytes_eq own word

abbrev pub is_said : List Row → List ℕ → List ℕ → Bool
is_said rows key word = is_word word (constant rows key)

unfoldable pub unit_names : List (List ℕ × code_unit.Unit)
unit_names = map (λ unit. (unit.0.now, unit.1)) UNITS

abbrev pub among : List (List ℕ × code_unit.Unit) → List ℕ → Option code_unit.Unit
among units name = option_map (λ unit. unit.1) (find (λ unit. bytes_eq unit.0 name) units)

abbrev pub unit_named : List ℕ → Option code_unit.Unit
unit_named name = among unit_names name

-- characters, unless a row says otherwise
abbrev pub unit_of : List Row → code_unit.Unit
unit_of rows = unwrap_or (option_and_then unit_named (constant rows keys.UNIT.now)) Characters

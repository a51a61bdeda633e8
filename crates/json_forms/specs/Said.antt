-- What an element says in its parts.
use Rattle.std.specs.Prelude.{ℕ, ◌==◌, ◌&&◌, List, length, Bool, if◌then◌else◌, nat_lt, Option, Some, None, option_map, option_and_then, slice_index, drop, find}
use Rattle.std.specs.List.{list_all}
use Rattle.std.specs.Char.{is_ascii_digit}
use Rattle.numerals.specs.Numerals.{number_in}
use Rattle.json_spots.specs.declared.step.Path.{Path}
use Rattle.json_spots.specs.declared.step.Wanted.{Wanted}
use Rattle.json_spots.specs.declared.step.Wanted.TheVariants as wanted
use Rattle.json_spots.specs.Spot.{Spot}
use Rattle.json_spots.specs.Said.{Said, nothing, words, figure, truth, other, said_at, says}
use Rattle.json_forms.specs.declared.said.Fault as code_fault
use Rattle.json_forms.specs.declared.said.Whole.{Whole}
use Rattle.json_forms.specs.declared.said.Whole.TheVariants.{Number, Below, Bad}

-- where an element isn't as a row wants it
pub record Fault : Type 0 where
  pub path : Option Path
  pub wanted : Wanted

-- the first path that leads to something
abbrev pub pick : List Path → Spot → Option Path
pick paths spot = find (λ path. says (said_at path spot)) paths

abbrev pub at_path : Path → Wanted → Option Fault
at_path path w = Some (record { path = Some path; wanted = w })

-- ---- texts

abbrev pub text_of : Said → Option (List ℕ)
text_of nothing = None
text_of (words text) = Some text
text_of (figure text) = Some text
text_of (truth b) = None
text_of other = None

unfoldable pub text_at : List Path → Spot → Option (List ℕ)
text_at paths spot = option_and_then (λ path. text_of (said_at path spot)) (pick paths spot)

abbrev pub text_wanted : Path → Said → Option Fault
text_wanted path nothing = None
text_wanted path (words text) = None
text_wanted path (figure text) = None
text_wanted path (truth b) = at_path path wanted.Text
text_wanted path other = at_path path wanted.Text

-- where a text should be, and isn't
unfoldable pub text_fault : List Path → Spot → Option Fault
text_fault paths spot = option_and_then (λ path. text_wanted path (said_at path spot)) (pick paths spot)

-- ---- numbers

abbrev pub is_below : List ℕ → Bool
is_below text = nat_lt 1 (length text) && slice_index text 0 == 0x2D && list_all is_ascii_digit (drop 1 text)

abbrev pub bounded : Option ℕ → Whole
bounded None = Bad
bounded (Some n) = if nat_lt n 0x100000000 then Number n else Bad

-- a whole number below 2^32; a negative one is below
abbrev pub whole : List ℕ → Whole
whole text = if is_below text then Below else bounded (number_in text)

abbrev pub number_said : Said → Whole
number_said nothing = Bad
number_said (words text) = whole text
number_said (figure text) = whole text
number_said (truth b) = Bad
number_said other = Bad

abbrev pub number_of : Whole → Option ℕ
number_of (Number n) = Some n
number_of Below = None
number_of Bad = None

unfoldable pub number_at : List Path → Spot → Option ℕ
number_at paths spot = option_and_then (λ path. number_of (number_said (said_at path spot))) (pick paths spot)

abbrev pub number_wanted : Path → Whole → Option Fault
number_wanted path (Number n) = None
number_wanted path Below = None
number_wanted path Bad = at_path path wanted.Number

-- where a number should be, and isn't
unfoldable pub number_fault : List Path → Spot → Option Fault
number_fault paths spot = option_and_then (λ path. number_wanted path (number_said (said_at path spot))) (pick paths spot)

-- ---- the code's values

abbrev pub fault_view : code_fault.Fault → Fault
fault_view fault = record { path = option_map (λ path. path.now) fault.path; wanted = fault.wanted }

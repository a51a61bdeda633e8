-- Steps, paths and marks as text.
use Rattle.std.specs.Prelude.{ℕ, ◌==◌, ◌&&◌, ◌||◌, List, [], ◌∷◌, ◌++◌, length, Bool, not, nat_le, if◌then◌else◌, codes, decimal, flat_map, replicate}
use Rattle.std.specs.List.{list_all}
use Rattle.std.specs.Char.{is_ascii_alphanumeric}
use Rattle.json_spots.specs.declared.step.Step.{Step}
use Rattle.json_spots.specs.declared.step.Step.TheVariants.{Key, Nth, Each, Member}
use Rattle.json_spots.specs.declared.step.Path.{Path}
use Rattle.json_spots.specs.declared.mark.Kinds.{Kinds}
use Rattle.json_spots.specs.declared.mark.MarkRow.{MarkRow}

-- a letter, a digit, `_`, `-`, or a byte of a character that isn't ASCII
abbrev pub is_plain_byte : ℕ → Bool
is_plain_byte byte = is_ascii_alphanumeric byte || (byte == 0x5F || (byte == 0x2D || nat_le 0x80 byte))

unfoldable pub is_plain : List ℕ → Bool
is_plain text = not (length text == 0) && list_all is_plain_byte text

-- a name, in quotes unless it is plain
unfoldable pub name_text : List ℕ → List ℕ
name_text name = if is_plain name then name else 0x22 ∷ name ++ 0x22 ∷ []

-- a step after another one
abbrev pub step_text : Step → List ℕ
step_text (Key name) = 0x2E ∷ name_text name.now
step_text (Nth at) = 0x5B ∷ decimal at ++ 0x5D ∷ []
step_text Each = codes "[]"
step_text Member = codes "{}"

-- the first step: a name has no dot before it
abbrev pub first_text : Step → List ℕ
first_text (Key name) = name_text name.now
first_text (Nth at) = 0x5B ∷ decimal at ++ 0x5D ∷ []
first_text Each = codes "[]"
first_text Member = codes "{}"

unfoldable pub steps_text : List Step → List ℕ
steps_text [] = codes "."
steps_text (step ∷ steps) = first_text step ++ flat_map step_text steps

abbrev pub inner_text : Path → List ℕ
inner_text path = if path.is_name then codes "@" else steps_text path.steps.items

-- as `^^.a[0]`: out by two values, and then in
unfoldable pub path_text : Path → List ℕ
path_text path = replicate path.out 0x5E ++ inner_text path

abbrev pub flag_text : Bool → ℕ → List ℕ
flag_text flag letter = if flag then letter ∷ [] else []

-- text, number, array, object, boolean, null, nothing
unfoldable pub kinds_text : Kinds → List ℕ
kinds_text kinds =
    flag_text kinds.text 0x74 ++ flag_text kinds.number 0x6E ++ flag_text kinds.array 0x61 ++ flag_text kinds.object 0x6F
    ++ flag_text kinds.boolean 0x62 ++ flag_text kinds.null 0x30 ++ flag_text kinds.nothing 0x2D

-- as `a[].b:tn`
unfoldable pub row_text : MarkRow → List ℕ
row_text row = steps_text row.steps.items ++ 0x3A ∷ kinds_text row.kinds

-- Where findings say that they are.
use Rattle.std.specs.Prelude.{ℕ, List, [], ◌∷◌, Option, Some, None, option_map, unwrap_or}
use Rattle.std.specs.Option.{option_or}
use Rattle.json_forms.specs.Place.{Place, place_view}
use Rattle.json_forms.specs.Finding.{Beside, Finding, Said_beside, said, wrong_at}
use Rattle.json_forms.specs.declared.form.SideKind.{SideKind}
use Rattle.json_forms.specs.declared.form.SideKind.TheVariants as kinds
use Rattle.json_reports.specs.declared.marks.Mark as code_mark

-- a place, and what is said there
pub record Mark : Type 0 where
  pub place : Place
  pub text : Option (List ℕ)

abbrev pub place_by : SideKind → Said_beside → Option Mark
place_by kinds.Place it = Some (record { place = it.place; text = it.text })
place_by kinds.Label it = None
place_by kinds.Edit it = None
place_by kinds.Note it = None

abbrev pub place_beside : Beside → Option Mark
place_beside (said it) = place_by it.kind it
place_beside (wrong_at spot fault) = None

abbrev pub label_kind : SideKind → Said_beside → Option Mark
label_kind kinds.Place it = None
label_kind kinds.Label it = Some (record { place = it.place; text = it.text })
label_kind kinds.Edit it = None
label_kind kinds.Note it = None

abbrev pub label_beside : Beside → Option Mark
label_beside (said it) = label_kind it.kind it
label_beside (wrong_at spot fault) = None

abbrev pub first_place : List Beside → Option Mark
first_place [] = None
first_place (side ∷ sides) = option_or (place_beside side) (first_place sides)

-- the first place beside a finding, or the finding's own
abbrev pub mark_of : Finding → Mark
mark_of it = unwrap_or (first_place it.sides) (record { place = it.place; text = None })

-- a place beside a finding that names no file is in the finding's
abbrev pub file_of : Finding → Option (List ℕ)
file_of it = option_or (mark_of it).place.file it.place.file

-- empty without a file
abbrev pub name_of : Finding → List ℕ
name_of it = unwrap_or (file_of it) []

-- ---- the code's values

abbrev pub mark_view : code_mark.Mark → Mark
mark_view mark = record { place = place_view mark.place; text = option_map (λ text. text.now) mark.text }

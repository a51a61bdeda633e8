-- Readings that are the same but for the order of members.
use Rattle.std.specs.Prelude.{◌≡◌, List, [], ◌&&◌, Bool, true}
use Rattle.std.specs.List.{list_all}
use Rattle.json.specs.Json.{Json}
use Rattle.json_spots.specs.Same.{AllSame, Same, SameSpot, are_placed}
use Rattle.json_forms.specs.declared.form.List as code_list
use Rattle.json_forms.specs.declared.form.Side.{Side}
use Rattle.json_forms.specs.Finding.{Beside, said, wrong_at, Finding, Outcome, left, aside, null_at, found, refused}
use Rattle.json_forms.specs.Read.{outcomes_of}

abbrev pub SameBeside : Beside → Beside → Type 0
SameBeside (said a) (said b) = a ≡ b
SameBeside (said a) (wrong_at spot fault) = ⊥
SameBeside (wrong_at spot fault) (said b) = ⊥
SameBeside (wrong_at spot fault) (wrong_at other its) = SameSpot spot other × (fault ≡ its)

abbrev pub without_sides : Finding → Finding
without_sides it = record it { sides = [] }

-- all parts are equal; where something beside a finding is wrong, it is at the same place
pub record SameFinding (a b : Finding) : Type 0 where
  pub parts : without_sides a ≡ without_sides b
  pub sides : AllSame SameBeside a.sides b.sides

abbrev pub SameOutcome : Outcome → Outcome → Type 0
SameOutcome left left = Unit {0}
SameOutcome (aside text) (aside other) = text ≡ other
SameOutcome (null_at spot) (null_at other) = SameSpot spot other
SameOutcome (found it) (found other) = SameFinding it other
SameOutcome (refused spot fault) (refused other its) = SameSpot spot other × (fault ≡ its)
SameOutcome a b = ⊥

abbrev pub side_placed : Side → Bool
side_placed side = are_placed side.at.items

-- whether no step of a list and of its sides is `{}`
abbrev pub list_placed : code_list.List → Bool
list_placed list = are_placed list.at.items && list_all side_placed list.sides.items

-- members in another order change no outcome, if the lists have no `{}`
abbrev pub IsOrderFree : List code_list.List → Json → Type 0
IsOrderFree lists value = (other : Json) → list_all list_placed lists ≡ true → Same value other → AllSame SameOutcome (outcomes_of lists value) (outcomes_of lists other)

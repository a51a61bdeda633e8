-- What a baseline has of findings.
use Rattle.std.specs.Prelude.{ℕ, ◌+◌, ◌-◌, ◌&&◌, ◌||◌, not, nat_lt, Bool, true, false, List, [], ◌∷◌, ◌++◌, map, Option, Some, None, String, string_bytes, option_map, unwrap_or, if◌then◌else◌}
use Rattle.std.specs.BTreeMap.{BTreeMap, get_by_text}
use Rattle.std.specs.Str.{bytes_eq}
use Rattle.std.specs.declared.alloc.Global.{Global}
use Rattle.finding_filters.specs.declared.baseline.Item.{Item}
use Rattle.finding_filters.specs.declared.baseline.Round.{Round}
use Rattle.finding_filters.specs.declared.baseline.Round.TheVariants.{SameRow, NoRow, Rest}

-- what is compared of a finding or an entry: its kind, and with the text of its row if that is known; and whether its turn comes last
pub record ItemParts : Type 0 where
  pub kind : List ℕ
  pub class : Option (List ℕ)
  pub late : Bool

abbrev pub item_parts : Item → ItemParts
item_parts it = record { kind = string_bytes it.kind; class = option_map string_bytes it.class; late = it.late }

-- ---- how many entries are left of each class

abbrev pub Left : Type 0
Left = List ℕ → ℕ

abbrev pub none_left : Left
none_left class = 0

abbrev pub one_of : List ℕ → List ℕ → ℕ
one_of class other = if bytes_eq class other then 1 else 0

unfoldable pub more : Left → List ℕ → Left
more left class other = left other + one_of class other

unfoldable pub less : Left → List ℕ → Left
less left class other = left other - one_of class other

unfoldable pub left_in : BTreeMap (String Global) ℕ → Left
left_in counts class = unwrap_or (get_by_text counts class) 0

abbrev pub counted_by : Left → Option (List ℕ) → Left
counted_by left None = left
counted_by left (Some class) = more left class

abbrev pub counted : Left → List (Option (List ℕ)) → Left
counted left [] = left
counted left (class ∷ classes) = counted (counted_by left class) classes

-- ---- the rounds

-- the class in which an entry can be taken: first by an equal row, then an entry with a row by its kind, at last one without
abbrev pub offered : Round → List ℕ → Option (List ℕ) → Option (List ℕ)
offered SameRow kind class = class
offered NoRow kind None = None
offered NoRow kind (Some class) = Some kind
offered Rest kind None = Some kind
offered Rest kind (Some class) = None

abbrev pub offers : Round → ItemParts → Option (List ℕ)
offers round it = offered round it.kind it.class

-- the class of which a finding takes an entry: first by its row; without a row one of its kind with a row; at last one without
abbrev pub asked_in : Round → List ℕ → Option (List ℕ) → Option (List ℕ)
asked_in SameRow kind class = class
asked_in NoRow kind None = Some kind
asked_in NoRow kind (Some class) = None
asked_in Rest kind class = Some kind

abbrev pub asked : Round → ItemParts → Option (List ℕ)
asked round it = asked_in round it.kind it.class

abbrev pub same : Bool → Bool → Bool
same true other = other
same false other = not other

-- what a finding asks for when those are in turn that are late, or that aren't; nothing if it is taken
abbrev pub asks : Round → Bool → ItemParts → Bool → Option (List ℕ)
asks round late it flag = if flag || not (same it.late late) then None else asked round it

abbrev pub taken_by : Left → Bool → Option (List ℕ) → Bool
taken_by left flag None = flag
taken_by left flag (Some class) = nat_lt 0 (left class)

abbrev pub left_by : Left → Option (List ℕ) → Left
left_by left None = left
left_by left (Some class) = less left class

-- which findings are taken, and what is left
pub record Passed : Type 0 where
  pub taken : List Bool
  pub left : Left

-- in order, each that is in turn takes an entry of its class, if there is one
abbrev pub passed : Round → Bool → List Bool → List ItemParts → List Bool → Left → Passed
passed round late done [] flags left = record { taken = done; left = left }
passed round late done (it ∷ items) [] left = record { taken = done; left = left }
passed round late done (it ∷ items) (flag ∷ flags) left =
    passed round late (done ++ taken_by left flag (asks round late it flag) ∷ []) items flags (left_by left (asks round late it flag))

abbrev pub then_late : Round → List ItemParts → Passed → List Bool
then_late round items it = (passed round true [] items it.taken it.left).taken

-- a round: those that are late come after the others
unfoldable pub turned : Round → List ItemParts → List Bool → Left → List Bool
turned round items flags left = then_late round items (passed round false [] items flags left)

abbrev pub less_if : Left → Bool → List ℕ → Left
less_if left false class = left
less_if left true class = less left class

-- without an entry of the kind of each finding that was taken in a round
abbrev pub taken_away : Left → List ItemParts → List Bool → List Bool → Left
taken_away left [] before after = left
taken_away left (it ∷ items) [] after = left
taken_away left (it ∷ items) (was ∷ before) [] = left
taken_away left (it ∷ items) (was ∷ before) (is ∷ after) =
    taken_away (less_if left (not was && is) it.kind) items before after

-- how many entries there are of each class in a round
abbrev pub entries_in : Round → List ItemParts → Left
entries_in round entries = counted none_left (map (offers round) entries)

abbrev pub first_round : List ItemParts → List Bool → List ItemParts → List Bool
first_round items flags entries = turned SameRow items flags (entries_in SameRow entries)

abbrev pub second_round : List ItemParts → List Bool → List ItemParts → List Bool → List Bool
second_round items flags entries first = turned NoRow items first (taken_away (entries_in NoRow entries) items flags first)

-- which findings are taken, or have an entry in the baseline
unfoldable pub known : List ItemParts → List Bool → List ItemParts → List Bool
known items flags entries = turned Rest items (second_round items flags entries (first_round items flags entries)) (entries_in Rest entries)

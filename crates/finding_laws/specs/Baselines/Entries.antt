-- Baselines that have an entry for each finding, and longer ones.
use Rattle.std.specs.Prelude.{◌≡◌, ℕ, ◌==◌, ◌||◌, if◌then◌else◌, Bool, true, false, List, [], ◌∷◌, Option, Some, None, IfSome}
use Rattle.std.specs.List.{All}
use Rattle.finding_filters.specs.Baseline.{ItemParts}
use Rattle.finding_laws.specs.Baselines.Findings.{AreSameRows}

-- an entry may be that of a finding: the row may be known of one of them alone
pub record IsEntryOf (it entry : ItemParts) : Type 0 where
  pub kind : entry.kind ≡ it.kind
  pub row : AreSameRows it.class entry.class

-- one entry for each finding that isn't taken, in order
abbrev pub AreEntriesOf : List ItemParts → List Bool → List ItemParts → Type 0
AreEntriesOf [] [] [] = Unit {0}
AreEntriesOf [] [] (entry ∷ entries) = ⊥
AreEntriesOf [] (flag ∷ flags) entries = ⊥
AreEntriesOf (it ∷ items) [] entries = ⊥
AreEntriesOf (it ∷ items) (true ∷ flags) entries = AreEntriesOf items flags entries
AreEntriesOf (it ∷ items) (false ∷ flags) [] = ⊥
AreEntriesOf (it ∷ items) (false ∷ flags) (entry ∷ entries) = IsEntryOf it entry × AreEntriesOf items flags entries

-- the text of a row is told together with the kind: this gives the kind of such a text
abbrev pub TellsKind : (List ℕ → List ℕ) → ItemParts → Type 0
TellsKind kind_in it = IfSome it.class (λ class. kind_in class ≡ it.kind)

abbrev pub TellKinds : (List ℕ → List ℕ) → List ItemParts → Type 0
TellKinds kind_in items = All (TellsKind kind_in) items

-- what is taken at first is taken in the end
abbrev pub StayTaken : List Bool → List Bool → Type 0
StayTaken [] [] = Unit {0}
StayTaken [] (is ∷ after) = ⊥
StayTaken (was ∷ before) [] = ⊥
StayTaken (was ∷ before) (is ∷ after) = (was ≡ true → is ≡ true) × StayTaken before after

-- ---- the kind of a finding in what is compared of it with its row

abbrev pub has_lf : List ℕ → Bool
has_lf [] = false
has_lf (byte ∷ bytes) = byte == 0x0A || has_lf bytes

-- what stands before the last LF of a text
abbrev pub before_last_lf : List ℕ → List ℕ
before_last_lf [] = []
before_last_lf (byte ∷ bytes) = if has_lf bytes then byte ∷ before_last_lf bytes else []

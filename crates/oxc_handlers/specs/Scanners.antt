-- The scanner that is handed in to a drawing, and the one that it leaves.
use Rattle.std.specs.Prelude.{◌≡◌, ◌<◌, List, [], ℕ, length, Option, Some, None, IfSome}
use Rattle.std.specs.Option.{unwrap_or}
use Rattle.oxc_span.specs.Label.{Label}
use Rattle.oxc_plan.specs.Keeping.{KeepsGroups, ReadsOn, least_start}
use Rattle.oxc_plan.specs.Scanned.{CanPlan, ReadsRound}
use Rattle.oxc_protocol.specs.Parts.{Parts}
use Rattle.oxc_protocol.specs.Source.{SourceParts}
use Rattle.oxc_windows.specs.Scan.{Scan}

-- a scanner that a diagnostic can be drawn by: it reads the diagnostic's source, that is a text, and each label ends within it
pub record CanDraw (scan : Scan) (parts : Parts) : Type 0 where
  pub source : IfSome parts.source (λ source. source.bytes ≡ scan.input)
  pub labels : CanPlan scan parts.labels

-- there is no scanner, or one that reads one row of context before a span and one after
abbrev pub ReadsRoundIfThere : Option Scan → Type 0
ReadsRoundIfThere scanner = IfSome scanner ReadsRound

-- a scanner that has read nothing
abbrev pub new_scan : List ℕ → Scan
new_scan source = record { input = source; before = 1; after = 1; first = None; left = 0; kept = [] }

-- the scanner that a drawing goes on with: the one handed in where it reads the source, and else a new one
pub record IsTaken (source : List ℕ) (handed_in : Option Scan) (scan : Scan) : Type 0 where
  pub reads : scan.input ≡ source
  pub again : IfSome handed_in (λ s. s.input ≡ source → scan ≡ s)
  pub anew : IfSome handed_in (λ s. ¬ (s.input ≡ source)) → scan ≡ new_scan source

-- what a scanner holds after labels were drawn by it: where it had read nothing, the first span that it read begins at the least start of
-- a label; and the rows of each group's window are kept
pub record HoldsLabels (source : List ℕ) (labels : List Label) (old new : Scan) : Type 0 where
  pub first : new.first ≡ Some (unwrap_or old.first (least_start labels))
  pub keeps : KeepsGroups source labels new

-- a scanner of the source is left, which has read on from the one that the drawing went on with
pub record LeavesReader (source : List ℕ) (handed_in left : Option Scan) : Type 0 where
  pub old : Scan
  pub new : Scan
  pub there : left ≡ Some new
  pub taken : IsTaken source handed_in old
  pub on : ReadsOn old new

-- the same, and it holds what the drawing of the labels read
pub record LeavesDrawer (source : List ℕ) (labels : List Label) (handed_in left : Option Scan) : Type 0 where
  pub reader : LeavesReader source handed_in left
  pub holds : HoldsLabels source labels reader.old reader.new

-- a diagnostic that has a source and a label leaves a scanner of its source
abbrev pub IsDrawerOf : Parts → Option Scan → Option Scan → Type 0
IsDrawerOf parts handed_in left = IfSome parts.source (λ source. 0 < length parts.labels → LeavesDrawer source.bytes parts.labels handed_in left)

-- a scanner that is handed in and reads the source is there afterwards, and has read on
abbrev pub StaysReader : Parts → Option Scan → Option Scan → Type 0
StaysReader parts handed_in left =
    (source : SourceParts) (old : Scan) → parts.source ≡ Some source → handed_in ≡ Some old → old.input ≡ source.bytes
    → (new : Scan) × ((left ≡ Some new) × ReadsOn old new)

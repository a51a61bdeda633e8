-- What a scanner holds after the spans of labels were read.
use Rattle.std.specs.Prelude.{◌≡◌, ℕ, ◌≤◌, List, length, Some, All}
use Rattle.std.specs.declared.ops.Range.{Range}
use Rattle.oxc_span.specs.declared.span.Span.{Span}
use Rattle.oxc_span.specs.Label.{Label}
use Rattle.oxc_windows.specs.Breaks.{breaks_of}
use Rattle.oxc_windows.specs.Kept.{AllStay, AreKept, AreKeptUpTo}
use Rattle.oxc_windows.specs.Scan.{IsSameReader, Scan}
use Rattle.oxc_windows.specs.Window.{first_row}
use Rattle.oxc_plan.specs.Groups.{group_window, groups_in, span_at}
use Rattle.oxc_plan.specs.Order.{spans_in_order}

-- the row starts that a scanner keeps are those of consecutive rows of its source
abbrev pub KeepsTrueRows : Scan → Type 0
KeepsTrueRows scan = AreKept (length scan.input) (breaks_of scan.input) scan.before scan.first scan.kept

-- what stays of a scanner, whatever it reads: its source and its rows of context, the start of the first span once it is set, the
-- row starts that it keeps, and that they are true
pub record ReadsOn (old new : Scan) : Type 0 where
  pub same : IsSameReader old new
  pub first : (first : ℕ) → old.first ≡ Some first → new.first ≡ Some first
  pub stay : AllStay old.kept new.kept
  pub rows : KeepsTrueRows old → KeepsTrueRows new

-- a scanner of a source, with one row of context before, has read a first span, and keeps every row start up to a place if that
-- span starts no later than another place
pub record KeepsRows (source : List ℕ) (scan : Scan) (start stop : ℕ) : Type 0 where
  pub first : ℕ
  pub set : scan.first ≡ Some first
  pub rows : first ≤ start → AreKeptUpTo (length source) (breaks_of source) (first_row (breaks_of source) 1 first) scan.kept stop

-- a scanner keeps every row start up to the end of the window of a group of spans, if the first span read starts no later
abbrev pub KeepsGroup : List ℕ → List Span → Scan → Range ℕ → Type 0
KeepsGroup source spans scan group =
    KeepsRows source scan (span_at spans group.start).start (group_window (length source) (breaks_of source) spans group).end

-- the least start of a label: that of the first one in label order
abbrev pub least_start : List Label → ℕ
least_start labels = (span_at (spans_in_order labels) 0).start

-- a scanner keeps every row start up to the end of the window of each group of labels that starts no earlier than the first span read
abbrev pub KeepsGroups : List ℕ → List Label → Scan → Type 0
KeepsGroups source labels scan =
    All (KeepsGroup source (spans_in_order labels) scan) (groups_in source labels)

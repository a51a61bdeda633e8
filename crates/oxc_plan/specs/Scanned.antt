-- What is asked of a scanner and of labels.
use Rattle.std.specs.Prelude.{◌≡◌, ◌≤◌, List, length, All}
use Rattle.std.specs.Str.{IsUtf8}
use Rattle.oxc_span.specs.Label.{Label, label_end}
use Rattle.oxc_windows.specs.Scan.{Scan}

-- a scanner reads one row of context before a span and one after
pub record ReadsRound (scan : Scan) : Type 0 where
  pub before : scan.before ≡ 1
  pub after : scan.after ≡ 1

-- labels can be grouped by what a scanner reads: it reads one row round a span, and each label ends within its source
pub record CanGroup (scan : Scan) (labels : List Label) : Type 0 where
  pub round : ReadsRound scan
  pub within : All (λ label. label_end label ≤ length scan.input) labels

-- a scanner reads one row round a span, and its source is a text
pub record ReadsTextRound (scan : Scan) : Type 0 where
  pub round : ReadsRound scan
  pub text : IsUtf8 scan.input

-- labels can be planned by what a scanner reads: it reads one row round a span of a text, and each label ends within it
pub record CanPlan (scan : Scan) (labels : List Label) : Type 0 where
  pub reads : ReadsTextRound scan
  pub within : All (λ label. label_end label ≤ length scan.input) labels

-- What is told of the row of a place.
use Rattle.std.specs.Prelude.{◌≡◌, ℕ, ◌+◌, ◌≤◌, List, ◌∷◌, length, Some}
use Rattle.oxc_span.specs.Label.{Label, label_end}
use Rattle.oxc_windows.specs.Breaks.{breaks_of}
use Rattle.oxc_windows.specs.Rows.{row_of}
use Rattle.oxc_windows.specs.Scan.{Contents, Scan, contents_read}
use Rattle.oxc_protocol.specs.Source.{SourceParts}
use Rattle.oxc_protocol.specs.Parts.{Parts}
use Rattle.oxc_protocol.specs.Info.{info_of}

-- a diagnostic has a source of these bytes, and its first label starts at this offset and ends within them
pub record PointsTo (p : Parts) (bytes : List ℕ) (offset : ℕ) : Type 0 where
  pub source : SourceParts
  pub label : Label
  pub others : List Label
  pub has_source : p.source ≡ Some source
  pub has_label : p.labels ≡ label ∷ others
  pub bytes_are : source.bytes ≡ bytes
  pub starts : label.offset ≡ offset
  pub ends : label_end label ≤ length bytes

-- the law: the row of an offset is what an editor is told of each diagnostic that points there, from 1, and what a scanner
-- without rows of context reads there with an empty span, from 0
pub record TellOneRow (bytes : List ℕ) (offset : ℕ) : Type 0 where
  pub told : (p : Parts) → PointsTo p bytes offset → (info_of p).start.line ≡ row_of (breaks_of bytes) offset + 1
  pub read : (scan : Scan) (contents : Contents) → scan.input ≡ bytes → scan.before ≡ 0 → contents_read scan (record { start = offset; end = offset }) ≡ Some contents
      → contents.line ≡ row_of (breaks_of bytes) offset

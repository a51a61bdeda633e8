-- What filters read of a finding.
use Rattle.std.specs.Prelude.{ℕ, ◌-◌, ◌==◌, ◌&&◌, nat_lt, max, Bool, false, List, Option, Some, None, unwrap_or, if◌then◌else◌}
use Rattle.std.specs.Option.{option_copied}
use Rattle.oxc_protocol.specs.declared.protocol.Severity.{Severity}
use Rattle.finding_filters.specs.declared.finding.FindingView.{FindingView}
use Rattle.finding_filters.specs.declared.finding.Spot.{Spot}

-- a finding with its texts as bytes
pub record FindingParts : Type 0 where
  pub file : List ℕ
  pub start : Spot
  pub end : Spot
  pub severity : Severity
  pub scope : List ℕ
  pub code : List ℕ
  pub message : List ℕ
  pub row_text : Option (List ℕ)
  pub reports : ℕ

abbrev pub finding_parts : FindingView → FindingParts
finding_parts it = record {
  file = it.file.now;
  start = it.start;
  end = it.end;
  severity = it.severity;
  scope = it.scope.now;
  code = it.code.now;
  message = it.message.now;
  row_text = option_copied it.row_text;
  reports = it.reports;
}

abbrev pub is_one : Option ℕ → Bool
is_one None = false
is_one (Some column) = column == 1

-- the last row: not one in which there is no character, and not before the first
abbrev pub last_row : ℕ → ℕ → Option ℕ → ℕ
last_row first last column = max (if nat_lt first last && is_one column then last - 1 else last) first

abbrev pub rows_from : Option ℕ → Spot → Option (ℕ × ℕ)
rows_from None end = None
rows_from (Some first) end = if first == 0 then None else Some (first, last_row first (unwrap_or end.row first) end.column)

-- the first and the last row that a finding touches, if it has a row
abbrev pub rows_of : Spot → Spot → Option (ℕ × ℕ)
rows_of start end = rows_from start.row end

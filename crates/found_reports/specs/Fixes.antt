-- What contracts see of exact edits.
use Rattle.std.specs.Prelude.{ℕ, List, map, string_bytes}
use Rattle.found_reports.specs.declared.fixes.RowChange.{RowChange}
use Rattle.found_reports.specs.declared.fixes.FoundFix.{FoundFix}

-- rows from the first one on that a text replaces
pub record ChangeParts : Type 0 where
  pub first : ℕ
  pub count : ℕ
  pub text : List ℕ

abbrev pub change_view : RowChange → ChangeParts
change_view change = record { first = change.first; count = change.count; text = string_bytes change.text }

-- the changes of an edit
abbrev pub fix_view : FoundFix → List ChangeParts
fix_view fix = map change_view fix.changes.items

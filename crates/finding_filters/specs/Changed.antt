-- Findings on changed rows.
use Rattle.std.specs.Prelude.{ℕ, ◌==◌, ◌||◌, Bool, true, List, length, Option, Some, None}
use Rattle.changed_rows.specs.Changes.{Changes, has_file, touches}
use Rattle.changed_rows.specs.declared.diff.RowSet.{RowSet}
use Rattle.changed_rows.specs.declared.diff.RowSet.TheVariants as rows
use Rattle.finding_filters.specs.Finding.{FindingParts, rows_of}
use Rattle.finding_filters.specs.declared.changed.FilterMode.{FilterMode}
use Rattle.finding_filters.specs.declared.changed.FilterMode.TheVariants.{Added, DiffContext, File, NoFilter}

-- the diff has one of these rows of a file; without rows, the file
abbrev pub touches_rows : Changes → RowSet → List ℕ → Option (ℕ × ℕ) → Bool
touches_rows changes set file None = has_file changes file
touches_rows changes set file (Some it) = touches changes set file it.0 it.1

abbrev pub touches_in : Changes → RowSet → FindingParts → Bool
touches_in changes set it = touches_rows changes set it.file (rows_of it.start it.end)

abbrev pub in_mode : Changes → FilterMode → FindingParts → Bool
in_mode changes Added it = touches_in changes rows.Added it
in_mode changes DiffContext it = touches_in changes rows.Shown it
in_mode changes File it = has_file changes it.file
in_mode changes NoFilter it = true

-- the diff leaves a finding; one without a file stays
unfoldable pub is_changed : Changes → FilterMode → FindingParts → Bool
is_changed changes mode it = length it.file == 0 || in_mode changes mode it

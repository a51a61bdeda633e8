-- What filters leave of reports.
use Rattle.std.specs.Prelude.{◌≡◌, ℕ, ◌||◌, ◌==◌, not, Bool, List, [], length, map, Option, Some, None, option_map, is_some, string_bytes}
use Rattle.found_reports.specs.Files.{files_of}
use Rattle.found_reports.specs.Found.{Found}
use Rattle.found_reports.specs.Kept.{FoundParts}
use Rattle.finding_filters.specs.Finding.{FindingParts}
use Rattle.finding_filters.specs.declared.changed.Changed.{Changed}
use Rattle.finding_filters.specs.declared.changed.FilterMode.{FilterMode}
use Rattle.finding_filters.specs.declared.changed.FilterMode.TheVariants.{NoFilter}
use Rattle.finding_filters.specs.declared.selection.Selection.{Selection}
use Rattle.filtered_findings.specs.Counts.{counts_in, flags_of, gone_of, summary_text}
use Rattle.filtered_findings.specs.Verdicts.{entries_of as items_of_baseline, twice_in, verdicts_of}
use Rattle.filtered_findings.specs.declared.counts.Counts.{Counts}
use Rattle.filtered_findings.specs.declared.verdicts.Verdict.{Verdict}
use Rattle.report_filters.specs.Entries.{entries_of, entry_parts}
use Rattle.found_reports.specs.Flagged.{kept_of}
use Rattle.report_filters.specs.declared.rules.Rules.{Rules}

-- ---- which filters there are

abbrev pub has_patterns : Selection → Bool
has_patterns it = not (length it.include.items == 0) || not (length it.exclude.items == 0) || not (length it.select.items == 0) || not (length it.ignore.items == 0)

-- a filter was given
abbrev pub is_given : Rules → Bool
is_given rules = rules.filters.unique || is_some rules.filters.changed || is_some rules.baseline || is_some rules.filters.selection.least || has_patterns rules.filters.selection

abbrev pub mode_in : Option Changed → FilterMode
mode_in None = NoFilter
mode_in (Some changed) = changed.mode

abbrev pub mode_of : Rules → FilterMode
mode_of rules = mode_in rules.filters.changed

-- ---- what they leave

-- the entries of a baseline; none without one
abbrev pub old_in : Option (List FindingParts) → List FindingParts
old_in None = []
old_in (Some entries) = entries

abbrev pub baseline_of : Rules → List FindingParts
baseline_of rules = old_in (option_map (λ entries. map entry_parts entries.items) rules.baseline)

-- the findings of reports; the texts of rows are only compared with a baseline
abbrev pub findings_in : Rules → Bool → List Found → List FindingParts
findings_in rules notes found = entries_of (string_bytes rules.root.front) (is_some rules.baseline) notes found

abbrev pub verdicts_in : Rules → Bool → List Found → List Verdict
verdicts_in rules notes found = verdicts_of rules.filters (findings_in rules notes found) (baseline_of rules)

-- how many entries of the baseline no finding took
abbrev pub gone_in : Rules → Bool → List Found → ℕ
gone_in rules notes found = gone_of (verdicts_in rules notes found) (length (items_of_baseline rules.filters (baseline_of rules) (twice_in rules.filters (baseline_of rules))))

unfoldable pub counts_for : Rules → Bool → List Found → Counts
counts_for rules notes found = counts_in (verdicts_in rules notes found) (gone_in rules notes found)

-- for each report, whether it stays
unfoldable pub flags_for : Rules → Bool → List Found → List Bool
flags_for rules notes found = flags_of (findings_in rules notes found) (verdicts_in rules notes found)

-- what is left of reports, with the files that these are on; and the line about it
pub record IsLeft (rules : Rules) (notes : Bool) (parts left : FoundParts) (line : List ℕ) : Type 0 where
  pub found : left.found ≡ kept_of (flags_for rules notes parts.found) parts.found
  pub files : left.files ≡ files_of left.found
  pub line_is : line ≡ summary_text (counts_for rules notes parts.found) (mode_of rules)

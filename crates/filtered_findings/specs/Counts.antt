-- How many findings each filter took.
use Rattle.std.specs.Prelude.{ℕ, ◌-◌, ◌++◌, ◌==◌, Bool, List, [], ◌∷◌, length, count_by, replicate, codes, decimal, if◌then◌else◌}
use Rattle.finding_filters.specs.Finding.{FindingParts}
use Rattle.finding_filters.specs.declared.changed.FilterMode.{FilterMode}
use Rattle.finding_filters.specs.declared.changed.FilterMode.TheVariants.{Added, DiffContext, File, NoFilter}
use Rattle.filtered_findings.specs.Verdicts.{stays}
use Rattle.filtered_findings.specs.declared.counts.Counts.{Counts}
use Rattle.filtered_findings.specs.declared.verdicts.Verdict.{Verdict}
use Rattle.filtered_findings.specs.declared.verdicts.Verdict.TheVariants.{Stays, Twice, InBaseline, NotSelected, NotChanged}

abbrev pub verdict_number : Verdict → ℕ
verdict_number Stays = 0
verdict_number Twice = 1
verdict_number InBaseline = 2
verdict_number NotSelected = 3
verdict_number NotChanged = 4

abbrev pub is_verdict : Verdict → Verdict → Bool
is_verdict wanted it = verdict_number it == verdict_number wanted

abbrev pub counts_in : List Verdict → ℕ → Counts
counts_in each gone = record {
  read = length each;
  left = count_by (λ it. is_verdict Stays it) each;
  twice = count_by (λ it. is_verdict Twice it) each;
  in_baseline = count_by (λ it. is_verdict InBaseline it) each;
  not_selected = count_by (λ it. is_verdict NotSelected it) each;
  not_changed = count_by (λ it. is_verdict NotChanged it) each;
  gone = gone;
}

-- how many entries of the baseline no finding took: each takes one
abbrev pub gone_of : List Verdict → ℕ → ℕ
gone_of verdicts entries = entries - count_by (λ it. is_verdict InBaseline it) verdicts

-- for each report, whether it stays: with its finding, which has so many
abbrev pub flags_of : List FindingParts → List Verdict → List Bool
flags_of [] each = []
flags_of (it ∷ its) [] = []
flags_of (it ∷ its) (verdict ∷ each) = replicate it.reports (stays verdict) ++ flags_of its each

-- ---- the line about it

abbrev pub plural_ending : ℕ → List ℕ
plural_ending count = if count == 1 then [] else codes "s"

unfoldable pub verb_of : ℕ → List ℕ
verb_of count = if count == 1 then codes "is" else codes "are"

abbrev pub mode_words : FilterMode → List ℕ
mode_words Added = codes "not on added lines"
mode_words DiffContext = codes "not on lines of the diff"
mode_words File = codes "not in changed files"
mode_words NoFilter = codes "not in changed files"

abbrev pub comma_after : List ℕ → List ℕ
comma_after [] = []
comma_after (byte ∷ more) = codes ", "

-- a count and its words after others; nothing of none
unfoldable pub with_part : List ℕ → ℕ → List ℕ → List ℕ
with_part text count words = if count == 0 then text else text ++ comma_after text ++ decimal count ++ codes " " ++ words

-- what each filter took
unfoldable pub parts_of : Counts → FilterMode → List ℕ
parts_of counts mode =
    with_part (with_part (with_part (with_part [] counts.twice (codes "repeated")) counts.in_baseline (codes "in the baseline")) counts.not_selected (codes "not selected"))
    counts.not_changed (mode_words mode)

abbrev pub head_text : ℕ → ℕ → List ℕ
head_text left read = codes "girzohal: " ++ decimal left ++ codes " of " ++ decimal read ++ codes " finding" ++ plural_ending read

abbrev pub parts_text : List ℕ → List ℕ
parts_text [] = []
parts_text (byte ∷ more) = codes ": " ++ byte ∷ more

abbrev pub gone_words : ℕ → List ℕ → List ℕ
gone_words gone verb = codes "; " ++ (decimal gone ++ (codes " of the baseline " ++ (verb ++ codes " gone")))

abbrev pub gone_text : ℕ → List ℕ
gone_text gone = if gone == 0 then [] else gone_words gone (verb_of gone)

-- `girzohal: 4 of 40 findings: 30 in the baseline, 6 not on added lines; 2 of the baseline are gone` and an LF
unfoldable pub summary_text : Counts → FilterMode → List ℕ
summary_text counts mode = head_text counts.left counts.read ++ parts_text (parts_of counts mode) ++ gone_text counts.gone ++ codes "\n"

-- What becomes of findings.
use Rattle.std.specs.Prelude.{ℕ, ◌&&◌, not, Bool, true, false, List, [], ◌∷◌, map, Option, Some, None, option_map, if◌then◌else◌}
use Rattle.finding_filters.specs.Baseline.{ItemParts, known}
use Rattle.finding_filters.specs.Changed.{is_changed}
use Rattle.finding_filters.specs.Finding.{FindingParts}
use Rattle.finding_filters.specs.Selection.{is_selected}
use Rattle.finding_filters.specs.Texts.{exact_text, kind_text, row_class}
use Rattle.finding_filters.specs.declared.changed.Changed.{Changed}
use Rattle.filtered_findings.specs.Repeats.{Seen, repeats_if}
use Rattle.filtered_findings.specs.declared.verdicts.Filters.{Filters}
use Rattle.filtered_findings.specs.declared.verdicts.Verdict.{Verdict}
use Rattle.filtered_findings.specs.declared.verdicts.Verdict.TheVariants.{Stays, Twice, InBaseline, NotSelected, NotChanged}

abbrev pub left_by : Option Changed → FindingParts → Bool
left_by None it = true
left_by (Some changed) it = is_changed changed.diff changed.mode it

-- the diff leaves a finding
abbrev pub is_left : Filters → FindingParts → Bool
is_left filters it = left_by filters.changed it

-- what becomes of a finding by the selection and the diff
unfoldable pub verdict_of : Filters → FindingParts → Verdict
verdict_of filters it = if not (is_selected filters.selection it) then NotSelected else if not (is_left filters it) then NotChanged else Stays

-- by all filters but a baseline, after those that were seen
abbrev pub next_verdict : Filters → Seen → FindingParts → Verdict
next_verdict filters seen it = if filters.unique && seen (exact_text it) then Twice else verdict_of filters it

-- ---- lists

-- what a baseline compares of a finding: the scope only where scopes are compared
abbrev pub compared : Filters → FindingParts → FindingParts
compared filters it = if filters.compares_scopes then it else record it { scope = [] }

-- the kind by which a baseline compares a finding
abbrev pub kind_in : Filters → FindingParts → List ℕ
kind_in filters it = kind_text (compared filters it)

-- how a baseline compares a finding
abbrev pub item_of : Filters → Bool → FindingParts → ItemParts
item_of filters late it = record { kind = kind_in filters it; class = option_map (row_class (kind_in filters it)) it.row_text; late = late }

abbrev pub is_late : Option Changed → FindingParts → Bool
is_late None it = false
is_late (Some changed) it = is_changed changed.diff changed.mode it

-- findings on changed rows come last
abbrev pub items_of : Filters → List FindingParts → List ItemParts
items_of filters its = map (λ it. item_of filters (is_late filters.changed it) it) its

-- entries that aren't repetitions
abbrev pub entries_of : Filters → List FindingParts → List Bool → List ItemParts
entries_of filters [] flags = []
entries_of filters (it ∷ its) [] = []
entries_of filters (it ∷ its) (flag ∷ flags) =
    if flag then entries_of filters its flags else item_of filters false it ∷ entries_of filters its flags

abbrev pub twice_in : Filters → List FindingParts → List Bool
twice_in filters its = repeats_if filters.unique its

-- which are repetitions, or in the baseline
abbrev pub taken_in : Filters → List FindingParts → List FindingParts → List Bool
taken_in filters its old = known (items_of filters its) (twice_in filters its) (entries_of filters old (twice_in filters old))

abbrev pub verdict_at : Filters → FindingParts → Bool → Bool → Verdict
verdict_at filters it twice taken = if twice then Twice else if taken then InBaseline else verdict_of filters it

abbrev pub verdicts_from : Filters → List FindingParts → List Bool → List Bool → List Verdict
verdicts_from filters [] twice taken = []
verdicts_from filters (it ∷ its) [] taken = []
verdicts_from filters (it ∷ its) (was ∷ twice) [] = []
verdicts_from filters (it ∷ its) (was ∷ twice) (is ∷ taken) = verdict_at filters it was is ∷ verdicts_from filters its twice taken

-- what becomes of each of some findings, by the entries of a baseline too
unfoldable pub verdicts_of : Filters → List FindingParts → List FindingParts → List Verdict
verdicts_of filters its old = verdicts_from filters its (twice_in filters its) (taken_in filters its old)

-- ---- what is left

abbrev pub stays : Verdict → Bool
stays Stays = true
stays Twice = false
stays InBaseline = false
stays NotSelected = false
stays NotChanged = false

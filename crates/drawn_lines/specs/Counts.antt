-- How many reports there were.
use Rattle.std.specs.Prelude.{ℕ, ◌+◌, ◌-◌, ◌==◌, ◌||◌, false, List, [], ◌++◌, length, if◌then◌else◌, codes, decimal, unwrap_or}
use Rattle.found_reports.specs.Found.{Found}
use Rattle.finding_summaries.specs.Counted.{counts_of, more_line, one_reaches, summary_line}
use Rattle.finding_summaries.specs.declared.counted.Counts.{Counts}
use Rattle.report_texts.specs.Texts.{drawn_count}
use Rattle.girzohal_options.specs.declared.Asked.{Asked}
use Rattle.drawn_lines.specs.Lines.{annotates}
use Rattle.escapes.specs.Cuts.{without_last}
use Rattle.drawn_lines.specs.declared.count.Count.{Count}

abbrev pub no_count : Count
no_count = record { total = 0; counts = record { errors = 0; warnings = 0; notes = 0 }; reached = false }

abbrev pub counts_with : Counts → Counts → Counts
counts_with a b = record { errors = a.errors + b.errors; warnings = a.warnings + b.warnings; notes = a.notes + b.notes }

-- how many reports there are, and whether one is at or above the level
abbrev pub count_of : Asked → List Found → Count
count_of asked found = record { total = length found; counts = counts_of found; reached = one_reaches asked.fail_on found }

abbrev pub count_with : Count → Count → Count
count_with a b = record { total = a.total + b.total; counts = counts_with a.counts b.counts; reached = a.reached || b.reached }

-- how many of all were printed again: ` (9 printed again)`
unfoldable pub again_text : List ℕ → ℕ → List ℕ
again_text line again = if again == 0 then line else unwrap_or (without_last 0x0A line) line ++ codes " (" ++ decimal again ++ codes " printed again)\n"

-- that there are more new reports than were drawn, and how many reports there are, with those that were printed again
abbrev pub count_text : Asked → Count → Count → List ℕ
count_text asked count again =
    more_line (count.total - drawn_count asked.most count.total)
    ++ (if asked.quiet then [] else again_text (summary_line (counts_with count.counts again.counts)) again.total)

-- what stands behind all drawings
abbrev pub ending_by : Asked → Count → Count → List ℕ
ending_by asked count again = if annotates asked.to then [] else count_text asked count again

-- the same of the reports that are new, and of those that were printed again
unfoldable pub ending : Asked → List Found → List Found → List ℕ
ending asked found again = ending_by asked (count_of asked found) (count_of asked again)

-- How many reports there are, and whether one is at or above a level.
use Rattle.std.specs.Prelude.{ℕ, ◌++◌, ◌==◌, List, [], ◌∷◌, count_by, Bool, true, false, if◌then◌else◌, codes, decimal}
use Rattle.std.specs.List.{list_any}
use Rattle.oxc_protocol.specs.declared.protocol.Severity.{Severity}
use Rattle.oxc_protocol.specs.declared.protocol.Severity.TheVariants.{Advice, Warning, Error}
use Rattle.found_reports.specs.Found.{Found}
use Rattle.finding_summaries.specs.declared.counted.Level.{Level}
use Rattle.finding_summaries.specs.declared.counted.Level.TheVariants as level
use Rattle.finding_summaries.specs.declared.counted.Counts.{Counts}

abbrev pub is_error : Severity → Bool
is_error Advice = false
is_error Warning = false
is_error Error = true

abbrev pub is_warning : Severity → Bool
is_warning Advice = false
is_warning Warning = true
is_warning Error = false

abbrev pub is_advice : Severity → Bool
is_advice Advice = true
is_advice Warning = false
is_advice Error = false

abbrev pub is_of : Severity → Severity → Bool
is_of Error severity = is_error severity
is_of Warning severity = is_warning severity
is_of Advice severity = is_advice severity

abbrev pub severity_of : Found → Severity
severity_of it = it.diagnostic.severity

-- how many of each severity there are
unfoldable pub counts_of : List Found → Counts
counts_of found =
    record {
      errors = count_by (λ it. is_of Error (severity_of it)) found;
      warnings = count_by (λ it. is_of Warning (severity_of it)) found;
      notes = count_by (λ it. is_of Advice (severity_of it)) found;
    }

-- a severity is at or above a level
abbrev pub reaches : Level → Severity → Bool
reaches level.Error severity = is_error severity
reaches level.Warning Advice = false
reaches level.Warning Warning = true
reaches level.Warning Error = true
reaches level.Advice severity = true
reaches level.Never severity = false

-- one of the reports is at or above the level
abbrev pub one_reaches : Level → List Found → Bool
one_reaches at found = list_any (λ it. reaches at (severity_of it)) found

-- ---- the line that says how many there are

abbrev pub comma_behind : List ℕ → List ℕ
comma_behind [] = []
comma_behind (byte ∷ more) = codes ", "

abbrev pub plural : ℕ → List ℕ
plural count = if count == 1 then [] else codes "s"

-- how many there are of a word, behind what was said before; nothing of none
unfoldable pub with_part : List ℕ → ℕ → List ℕ → List ℕ
with_part text count word = if count == 0 then text else text ++ comma_behind text ++ decimal count ++ codes " " ++ word ++ plural count

abbrev pub ended : List ℕ → List ℕ
ended [] = []
ended (byte ∷ more) = (byte ∷ more) ++ codes "\n"

-- `3 errors, 1 warning` and an LF; nothing where there is nothing
unfoldable pub summary_line : Counts → List ℕ
summary_line counts = ended (with_part (with_part (with_part [] counts.errors (codes "error")) counts.warnings (codes "warning")) counts.notes (codes "note"))

-- that there are more than were drawn
unfoldable pub more_line : ℕ → List ℕ
more_line count = if count == 0 then [] else codes "and " ++ decimal count ++ codes " more\n"

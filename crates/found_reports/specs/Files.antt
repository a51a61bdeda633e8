-- The files that reports are on.
use Rattle.std.specs.Prelude.{ℕ, ◌==◌, ◌&&◌, Bool, false, List, [], ◌∷◌, ◌++◌, map, if◌then◌else◌}
use Rattle.std.specs.List.{fold, list_any}
use Rattle.std.specs.Str.{bytes_eq}
use Rattle.found_reports.specs.Found.{Found, NamedHeld}
use Rattle.found_reports.specs.Held.{Held, holds, lacks}
use Rattle.found_reports.specs.declared.sources.Lack.{Lack}
use Rattle.found_reports.specs.declared.sources.Lack.TheVariants.{Missing, Outside, NoFile, TooLong, NoText, Unreadable}

-- the file that a report is on
abbrev pub file_on : Found → NamedHeld
file_on report = record { name = report.name; held = report.held }

-- ---- files that are the same

-- each reason by a number of its own
abbrev pub why_number : Lack → ℕ
why_number Missing = 0
why_number Outside = 1
why_number NoFile = 2
why_number TooLong = 3
why_number NoText = 4
why_number Unreadable = 5

-- two texts with the same bytes, or the same reason twice
abbrev pub same_held : Held → Held → Bool
same_held (holds text) (holds other) = bytes_eq text other
same_held (lacks why) (lacks other) = why_number why == why_number other
same_held (holds text) (lacks why) = false
same_held (lacks why) (holds text) = false

-- they have one name, and the same is held of both
abbrev pub same_file : NamedHeld → NamedHeld → Bool
same_file file other = bytes_eq file.name other.name && same_held file.held other.held

-- ---- each once

-- these files, and this one behind them where it is none of them
unfoldable pub with_file : List NamedHeld → NamedHeld → List NamedHeld
with_file files file = if list_any (same_file file) files then files else files ++ file ∷ []

-- the files that reports are on, each once, in the order of their first reports
unfoldable pub files_of : List Found → List NamedHeld
files_of reports = fold with_file [] (map file_on reports)

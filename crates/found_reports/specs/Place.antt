-- Places as tools give them, and the notes that tell them.
use Rattle.std.specs.Prelude.{ℕ, List, [], ◌++◌, ◌==◌, length, Option, Some, None, codes, decimal, if◌then◌else◌}
use Rattle.found_reports.specs.declared.places.GivenPlace.{GivenPlace}
use Rattle.found_reports.specs.declared.sources.Lack.{Lack}
use Rattle.found_reports.specs.declared.sources.Lack.TheVariants.{Missing, Outside, NoFile, TooLong, NoText, Unreadable}

-- why there is no text, in words; empty where there is nothing of the name
abbrev pub reason : Lack → List ℕ
reason Missing = []
reason Outside = codes "not read: outside of the root"
reason NoFile = codes "not read: no plain file"
reason TooLong = codes "not read: longer than 64 MiB"
reason NoText = codes "not read: no UTF-8"
reason Unreadable = codes "it can't be read"

abbrev pub reason_text : List ℕ → List ℕ
reason_text words = if length words == 0 then [] else codes " (" ++ words ++ codes ")"

unfoldable pub why_text : Option Lack → List ℕ
why_text None = []
why_text (Some why) = reason_text (reason why)

unfoldable pub number_text : ℕ → List ℕ
number_text number = codes ":" ++ decimal number

-- a column stands only behind a row
abbrev pub numbers_text : Option ℕ → Option ℕ → List ℕ
numbers_text None column = []
numbers_text (Some line) None = number_text line
numbers_text (Some line) (Some column) = number_text line ++ number_text column

unfoldable pub at_text : List ℕ → GivenPlace → List ℕ
at_text name place = codes "at " ++ name ++ numbers_text place.line place.column

-- where a report stands that has no label, and why its source wasn't read
unfoldable pub place_line : List ℕ → GivenPlace → Option Lack → List ℕ
place_line name place why = at_text name place ++ why_text why

abbrev pub first_lines : Option (List ℕ) → List ℕ
first_lines None = []
first_lines (Some note) = note ++ codes "\n"

-- that line behind the note that there is
unfoldable pub noted : Option (List ℕ) → List ℕ → GivenPlace → Option Lack → List ℕ
noted note name place why = first_lines note ++ place_line name place why

-- A table for people: each file's findings below its name, in columns as wide as their widest cells.
use Rattle.std.specs.Prelude.{ℕ, ◌-◌, ◌==◌, if◌then◌else◌, Bool, true, false, max, List, [], ◌∷◌, ◌++◌, filter, fold, length, Option, Some, None, unwrap_or, codes, decimal, replicate}
use Rattle.std.specs.List.{count_by, flat_map}
use Rattle.oxc_protocol.specs.declared.protocol.Severity.{Severity}
use Rattle.oxc_protocol.specs.declared.protocol.Severity.TheVariants.{Error, Warning, Advice}
use Rattle.textwrap.specs.Width.{display_width}
use Rattle.escapes.specs.Cuts.{without_last}
use Rattle.ci_formats.specs.Finding.{FindingParts}
use Rattle.ci_formats.specs.declared.stylish.Measure.{Measure}
use Rattle.ci_formats.specs.declared.stylish.Measure.TheVariants.{Row, Column, Level, Message}
use Rattle.ci_formats.specs.declared.stylish.Widths.{Widths}
use Rattle.ci_formats.specs.Files.{is_on, names_of, or_zero}

abbrev pub level_word : Severity → List ℕ
level_word Error = codes "error"
level_word Warning = codes "warning"
level_word Advice = codes "advice"

-- a message without the point at its end
abbrev pub pointless : List ℕ → List ℕ
pointless message = unwrap_or (without_last 0x2E message) message

-- how wide a cell of a finding is on a screen
abbrev pub measured : Measure → FindingParts → ℕ
measured Row f = length (decimal (or_zero f.start.row))
measured Column f = length (decimal (or_zero f.start.column))
measured Level f = length (level_word f.severity)
measured Message f = display_width (pointless f.message)

unfoldable pub widest : Measure → List FindingParts → ℕ
widest measure findings = fold (λ most f. max most (measured measure f)) 0 findings

abbrev pub widths_of : List FindingParts → Widths
widths_of findings = record { row = widest Row findings; column = widest Column findings; level = widest Level findings; message = widest Message findings }

unfoldable pub blanks : ℕ → List ℕ
blanks count = replicate count 0x20

-- the place: the row's end and the column's beginning stand below one another
unfoldable pub place_cells : Widths → FindingParts → List ℕ
place_cells widths f =
    blanks (widths.row - measured Row f) ++ decimal (or_zero f.start.row) ++ codes ":" ++ decimal (or_zero f.start.column)
    ++ blanks (widths.column - measured Column f)

unfoldable pub level_cell : Widths → FindingParts → List ℕ
level_cell widths f = level_word f.severity ++ blanks (widths.level - measured Level f)

-- the code, where there is one, behind the message's column
abbrev pub code_cell : Widths → FindingParts → Option (List ℕ) → List ℕ
code_cell widths f None = []
code_cell widths f (Some code) = blanks (widths.message - measured Message f) ++ codes "  " ++ code

unfoldable pub row_text : Widths → FindingParts → List ℕ
row_text widths f =
    codes "  " ++ place_cells widths f ++ codes "  " ++ level_cell widths f ++ codes "  " ++ pointless f.message ++ code_cell widths f f.code ++ codes "\n"

-- a file: its name, its findings, an empty line
unfoldable pub rows_text : List FindingParts → List ℕ
rows_text findings = flat_map (row_text (widths_of findings)) findings

unfoldable pub table_text : List ℕ → List FindingParts → List ℕ
table_text name own = name ++ codes "\n" ++ rows_text own ++ codes "\n"

abbrev pub file_text : List FindingParts → List ℕ → List ℕ
file_text findings name = table_text name (filter (is_on name) findings)

-- a number of things
abbrev pub plural : ℕ → List ℕ
plural count = if count == 1 then [] else codes "s"

unfoldable pub counted : ℕ → List ℕ → List ℕ
counted count noun = decimal count ++ codes " " ++ noun ++ plural count

abbrev pub is_grave : Severity → Bool
is_grave Error = true
is_grave Warning = false
is_grave Advice = false

abbrev pub is_error : FindingParts → Bool
is_error f = is_grave f.severity

-- `✖` in UTF-8, and a blank
abbrev pub cross : List ℕ
cross = 0xE2 ∷ 0x9C ∷ 0x96 ∷ 0x20 ∷ []

-- how many are errors; the others are warnings
unfoldable pub shares : ℕ → ℕ → List ℕ
shares all errors = counted errors (codes "error") ++ codes ", " ++ counted (all - errors) (codes "warning")

-- how many there are
unfoldable pub summary : ℕ → ℕ → List ℕ
summary all errors = cross ++ counted all (codes "problem") ++ codes " (" ++ shares all errors ++ codes ")\n"

abbrev pub ending : List FindingParts → List ℕ
ending [] = []
ending (f ∷ rest) = summary (length (f ∷ rest)) (count_by is_error (f ∷ rest))

-- nothing where nothing is
unfoldable pub stylish_of : List FindingParts → List ℕ
stylish_of findings = flat_map (file_text findings) (names_of findings) ++ ending findings

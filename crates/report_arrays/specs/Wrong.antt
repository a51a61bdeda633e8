-- Which argument is the first that is wrong: the texts, else an element of the files, the reports or the labels.
use Rattle.std.specs.Prelude.{ℕ, ◌&&◌, nat_lt, not, Bool, List, length, Option, Some, option_map, if◌then◌else◌}
use Rattle.std.specs.List.{position}
use Rattle.std.specs.Option.{option_or}
use Rattle.std.specs.Str.{is_utf8}
use Rattle.report_arrays.specs.declared.shapes.File.{File}
use Rattle.report_arrays.specs.declared.shapes.Report.{Report}
use Rattle.report_arrays.specs.declared.shapes.Label.{Label}
use Rattle.report_arrays.specs.declared.judged.Wrong.{Wrong}
use Rattle.report_arrays.specs.declared.judged.Wrong.TheVariants.{InTexts, InFile, InReport, InLabel}
use Rattle.report_arrays.specs.Texts.{is_text, is_short_text, is_optional, is_filled}
use Rattle.report_arrays.specs.Labels.{has_labels}

-- a file has a name, and a source of fewer than `u32::MAX` bytes
abbrev pub is_file : List ℕ → File → Bool
is_file texts file = is_text texts file.name && is_short_text texts file.source

-- a report has a message; the parts of its code aren't empty
abbrev pub has_texts : List ℕ → Report → Bool
has_texts texts report =
    is_text texts report.message
    && is_filled texts report.scope
    && is_filled texts report.number
    && is_optional texts report.help
    && is_optional texts report.note
    && is_optional texts report.url

-- a report is on one of so many files, of one of three severities, with labels of a list so long
unfoldable pub is_report : List ℕ → ℕ → ℕ → Report → Bool
is_report texts files labels report =
    nat_lt report.file files
    && nat_lt report.severity 3
    && has_texts texts report
    && has_labels labels report

-- a label has a text or none; its place is judged when it is drawn
abbrev pub is_label : List ℕ → Label → Bool
is_label texts label = is_optional texts label.text

-- the first file that is wrong; more than `u32::MAX` files are wrong as a whole, at `usize::MAX`
abbrev pub wrong_file : List ℕ → List File → Option ℕ
wrong_file texts files =
    if nat_lt 4294967295 (length files)
    then Some 18446744073709551615
    else position (λ file. not (is_file texts file)) files

-- the first report that is wrong
abbrev pub wrong_report : List ℕ → ℕ → ℕ → List Report → Option ℕ
wrong_report texts files labels reports =
    position (λ report. not (is_report texts files labels report)) reports

-- the first label that is wrong, whether a report names it or not
abbrev pub wrong_label : List ℕ → List Label → Option ℕ
wrong_label texts labels = position (λ label. not (is_label texts label)) labels

-- the first element that is wrong: the files, then the reports, then the labels
unfoldable pub wrong_in : List ℕ → List File → List Report → List Label → Option Wrong
wrong_in texts files reports labels =
    option_or (option_map InFile (wrong_file texts files))
    (option_or (option_map InReport (wrong_report texts (length files) (length labels) reports))
    (option_map InLabel (wrong_label texts labels)))

-- the first argument that is wrong: the texts, else an element
abbrev pub wrong_of : List ℕ → List File → List Report → List Label → Option Wrong
wrong_of texts files reports labels =
    if is_utf8 texts then wrong_in texts files reports labels else Some InTexts

-- What a caller's arguments mean: files and reports on them, or why they mean nothing.
use Rattle.std.specs.Prelude.{ℕ, ◌==◌, ◌&&◌, nat_le, nat_lt, List, map, Option, Some, None, option_map, if◌then◌else◌}
use Rattle.std.specs.Option.{option_or}
use Rattle.codespan.specs.Texts.{NamedText}
use Rattle.report_arrays.specs.declared.shapes.File.{File}
use Rattle.report_arrays.specs.declared.shapes.Report.{Report}
use Rattle.report_arrays.specs.declared.shapes.Label.{Label}
use Rattle.report_arrays.specs.Wrong.{wrong_of}
use Rattle.render_files.specs.Given.{GivenReport}
use Rattle.documents.specs.Document.{Document, document_of}
use Rattle.report_arrays.specs.Values.{named, report as report_of}
use Rattle.girzohal_c.specs.declared.shapes.Look.{Look}
use Rattle.girzohal_c.specs.declared.drawing.Argument.{Argument}
use Rattle.girzohal_c.specs.declared.drawing.Argument.TheVariants.{InAbi, InArrays, InLook}

-- files and reports on them; or the first argument that is wrong; or bytes that are no document
pub data Meaning : Type 0 where
  means : List NamedText → List GivenReport → Meaning
  is_wrong : Argument → Meaning
  no_document : Meaning

-- the arrays that a caller hands over
pub record Arrays : Type 0 where
  pub texts : List ℕ
  pub files : List File
  pub reports : List Report
  pub labels : List Label

abbrev pub arrays : List ℕ → List File → List Report → List Label → Arrays
arrays texts files reports labels = record {
  texts = texts;
  files = files;
  reports = reports;
  labels = labels;
}

-- the first of the look's numbers that is wrong, by its field: a theme that isn't there, tab stops that
-- aren't 1 to 16 columns apart, or a form that isn't there
abbrev pub wrong_look : Look → Option ℕ
wrong_look look =
    if nat_lt look.theme 3
    then (if nat_le 1 look.tabs && nat_le look.tabs 16
    then (if nat_lt look.form 2 then None else Some 2)
    else Some 1)
    else Some 0

-- the ABI whose number is 1 is the only one
abbrev pub wrong_abi : ℕ → Option Argument
wrong_abi abi = if abi == 1 then None else Some InAbi

-- the first argument that is wrong: the number of the ABI, then the arrays, then the look
unfoldable pub wrong : ℕ → Arrays → Look → Option Argument
wrong abi it look =
    option_or (wrong_abi abi)
    (option_or (option_map InArrays (wrong_of it.texts it.files it.reports it.labels))
    (option_map InLook (wrong_look look)))

-- the first argument of a document's call that is wrong
abbrev pub wrong_beside : ℕ → Look → Option Argument
wrong_beside abi look = option_or (wrong_abi abi) (option_map InLook (wrong_look look))

-- the files and the reports that the arrays say
abbrev pub files_in : Arrays → List NamedText
files_in it = map (named it.texts) it.files

abbrev pub reports_in : Arrays → List GivenReport
reports_in it = map (report_of it.texts it.labels) it.reports

-- what is meant if no argument is wrong
abbrev pub judged : Option Argument → Meaning → Meaning
judged None meant = meant
judged (Some argument) meant = is_wrong argument

-- what the arrays mean, under a look
abbrev pub meaning : ℕ → Arrays → Look → Meaning
meaning abi it look = judged (wrong abi it look) (means (files_in it) (reports_in it))

-- what a document means, or that there is none
abbrev pub said_by : Option Document → Meaning
said_by None = no_document
said_by (Some it) = means it.files it.reports

-- what the bytes of a document mean, under a look
abbrev pub document_meaning : ℕ → List ℕ → Look → Meaning
document_meaning abi bytes look = judged (wrong_beside abi look) (said_by (document_of bytes))

-- The workflow command of GitHub that a finding is.
use Rattle.std.specs.Prelude.{ℕ, ◌==◌, ◌||◌, if◌then◌else◌, Bool, true, false, List, [], ◌++◌, length, Option, Some, None, codes, decimal, string_bytes}
use Rattle.std.specs.List.{flat_map}
use Rattle.std.specs.Option.{is_some, option_and}
use Rattle.oxc_span.specs.Views.{text_bytes}
use Rattle.oxc_protocol.specs.declared.protocol.Severity.{Severity}
use Rattle.oxc_protocol.specs.declared.protocol.Severity.TheVariants as severity
use Rattle.ci_formats.specs.declared.finding.Location.{Location}
use Rattle.ci_formats.specs.Finding.{FindingParts}
use Rattle.ci_formats.specs.declared.percent.Field.TheVariants.{Message, Property}
use Rattle.ci_formats.specs.declared.annotation.Annotation.{Annotation}
use Rattle.ci_formats.specs.declared.annotation.Level.{Level}
use Rattle.ci_formats.specs.declared.annotation.Level.TheVariants.{Error, Warning, Notice}
use Rattle.ci_formats.specs.Percent.{escape}

-- the fields of an `Annotation`, its texts as bytes
pub record AnnotationParts : Type 0 where
  pub level : Level
  pub file : Option (List ℕ)
  pub line : Option ℕ
  pub end_line : Option ℕ
  pub column : Option ℕ
  pub end_column : Option ℕ
  pub title : Option (List ℕ)
  pub message : List ℕ

abbrev pub annotation_parts : Annotation → AnnotationParts
annotation_parts a = record { level = a.level; file = text_bytes a.file; line = a.line; end_line = a.end_line; column = a.column; end_column = a.end_column; title = text_bytes a.title; message = string_bytes a.message }

-- ---- the line

abbrev pub level_name : Level → List ℕ
level_name Error = codes "error"
level_name Warning = codes "warning"
level_name Notice = codes "notice"

-- what stands before a property: a blank before the first
abbrev pub separator : Bool → List ℕ
separator false = codes " "
separator true = codes ","

-- a property, where it is there; the flag says that one stands before it
unfoldable pub text_property : Bool → List ℕ → Option (List ℕ) → List ℕ
text_property started key None = []
text_property started key (Some value) = separator started ++ key ++ escape Property value

unfoldable pub number_property : Bool → List ℕ → Option ℕ → List ℕ
number_property started key None = []
number_property started key (Some n) = separator started ++ key ++ decimal n

-- the properties from the first row on, each with whether one stands before it
unfoldable pub from_line : Bool → AnnotationParts → List ℕ
from_line started a =
    let end_line = started || is_some a.line in
    let column = end_line || is_some a.end_line in
    let end_column = column || is_some a.column in
    let title = end_column || is_some a.end_column in
    number_property started (codes "line=") a.line
    ++ number_property end_line (codes "endLine=") a.end_line
    ++ number_property column (codes "col=") a.column
    ++ number_property end_column (codes "endColumn=") a.end_column
    ++ text_property title (codes "title=") a.title

unfoldable pub properties : AnnotationParts → List ℕ
properties a = text_property false (codes "file=") a.file ++ from_line (is_some a.file) a

-- the line of an annotation, with its LF
unfoldable pub annotation_line : AnnotationParts → List ℕ
annotation_line a = codes "::" ++ level_name a.level ++ properties a ++ codes "::" ++ escape Message a.message ++ codes "\n"

-- ---- the annotation of a finding

abbrev pub level_of : Severity → Level
level_of severity.Error = Error
level_of severity.Warning = Warning
level_of severity.Advice = Notice

abbrev pub file_of : List ℕ → Option (List ℕ)
file_of name = if length name == 0 then None else Some name

-- an end row counts only where there is a start row
abbrev pub end_line_of : Location → Location → Option ℕ
end_line_of start end = option_and start.row end.row

-- a finding stands in one row: its start is known, and its end is in that row or isn't known
abbrev pub is_same_row : ℕ → Option ℕ → Bool
is_same_row row None = true
is_same_row row (Some last) = last == row

abbrev pub is_one_row : Option ℕ → Option ℕ → Bool
is_one_row None last = false
is_one_row (Some row) last = is_same_row row last

-- columns stand only within one row: GitHub drops those of more rows
abbrev pub kept_column : Location → Location → Option ℕ → Option ℕ
kept_column start end column = if is_one_row start.row end.row then column else None

unfoldable pub annotation_for : FindingParts → AnnotationParts
annotation_for f = record {
  level = level_of f.severity;
  file = file_of f.name;
  line = f.start.row;
  end_line = end_line_of f.start f.end;
  column = kept_column f.start f.end f.start.column;
  end_column = kept_column f.start f.end f.end.column;
  title = f.code;
  message = f.message;
}

-- the line of a finding, and those of all
abbrev pub line_of : FindingParts → List ℕ
line_of f = annotation_line (annotation_for f)

abbrev pub text_of : List FindingParts → List ℕ
text_of findings = flat_map line_of findings

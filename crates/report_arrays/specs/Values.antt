-- What the elements of the arrays say, as files of a database and reports on them.
use Rattle.std.specs.Prelude.{ℕ, ◌==◌, not, List, [], map, if◌then◌else◌}
use Rattle.report_arrays.specs.declared.shapes.File.{File}
use Rattle.report_arrays.specs.declared.shapes.Report.{Report}
use Rattle.report_arrays.specs.declared.shapes.Label.{Label}
use Rattle.report_arrays.specs.Texts.{text_of, optional_of}
use Rattle.report_arrays.specs.Labels.{labels_of}
use Rattle.codespan.specs.Texts.{NamedText}
use Rattle.oxc_protocol.specs.Parts.{OxcParts}
use Rattle.oxc_protocol.specs.declared.protocol.Severity.{Severity}
use Rattle.oxc_protocol.specs.declared.protocol.Severity.TheVariants.{Advice, Warning, Error}
use Rattle.render_files.specs.declared.places.LabelPlace.TheVariants.{Bytes}
use Rattle.render_files.specs.Given.{GivenLabel, GivenReport}

-- a file
abbrev pub named : List ℕ → File → NamedText
named texts file = record { name = text_of texts file.name; text = text_of texts file.source }

-- a label, by bytes of its file's source
abbrev pub label : List ℕ → Label → GivenLabel
label texts it = record {
  place = Bytes it.start it.end;
  text = optional_of texts it.text;
  primary = not (it.primary == 0);
}

-- 0 is advice, 1 a warning, and 2 an error
abbrev pub severity : ℕ → Severity
severity number = if number == 0 then Advice else if number == 1 then Warning else Error

-- what a report says
abbrev pub said : List ℕ → Report → OxcParts
said texts it = record {
  message = text_of texts it.message;
  labels = [];
  help = optional_of texts it.help;
  note = optional_of texts it.note;
  severity = severity it.severity;
  code = record { scope = optional_of texts it.scope; number = optional_of texts it.number };
  url = optional_of texts it.url;
}

-- a report, of a list of labels
unfoldable pub report : List ℕ → List Label → Report → GivenReport
report texts labels it = record {
  file = it.file;
  diagnostic = said texts it;
  labels = map (label texts) (labels_of labels it);
}

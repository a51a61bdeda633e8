-- What contracts see of a `Document`.
use Rattle.std.specs.Prelude.{map, String, string_bytes}
use Rattle.std.specs.declared.alloc.Global.{Global}
use Rattle.codespan.specs.Texts.{NamedText}
use Rattle.render_files.specs.Given.{given_report}
use Rattle.documents.specs.Document as document
use Rattle.documents.specs.declared.document.Document.{Document}

abbrev pub document_view : Document → document.Document
document_view it = record { files = it.files; reports = map given_report it.reports.items }

-- a file's name and its source
abbrev pub named_text : String Global × String Global → NamedText
named_text file = record { name = string_bytes file.0; text = string_bytes file.1 }

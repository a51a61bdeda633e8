-- The text is read as the value that was written.
use Rattle.std.proofs.Common.{string_bytes}
use Rattle.std.proofs.lemmas.Str.{IsUtf8-string_bytes}
use Rattle.serde_json.specs.View.{view}
use Rattle.documents.proofs.FormLemmas.{document_is}
use Rattle.documents.proofs.generated.generated_text.Goals as goal

pub returns-clause-document : goal.returns-clause-document
returns-clause-document c =
    document_is c.args.count (string_bytes c.in_ok-text.text) (view c.in_ok-document.document) c.requires (IsUtf8-string_bytes c.in_ok-text.text) c.in_ok-document.ensures c.in_ok-text.ensures.reads_back

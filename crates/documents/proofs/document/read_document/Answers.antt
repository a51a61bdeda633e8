-- What was read is the value of the input, and what can't be read is none.
use Rattle.std.proofs.Common.{◌≡◌, ◌∙◌, sym, false, true}
use Rattle.documents.proofs.KindLemmas.{document_read, document_unread}
use Rattle.documents.proofs.document.read_document.Goals as goal

pub returns-in-Ok : goal.returns-in-Ok
returns-in-Ok c = rw (document_read c.args.bytes.now _ c.in-Ok.ensures.ok.0 c.in-Ok.ensures.ok.1) c.read_form.ensures

pub returns-else-is_memory : goal.returns-else-is_memory
returns-else-is_memory c = sym (document_unread c.args.bytes.now (c.in-Err.ensures.err (λ memory. let none : false ≡ true = c.if-is_memory.ensures.1 memory in cc)))

-- The document that was made has no refusal.
use Rattle.std.proofs.Common.{◌≡◌, ◌∙◌, ap, sym, subst, Some, IfSome, None, string_bytes}
use Rattle.render_files.specs.Refusal.{refusal_of}
use Rattle.documents.specs.Document.{document_of}
use Rattle.documents.specs.Generated.{document_made}
use Rattle.documents.proofs.FormLemmas.{accepted}
use Rattle.documents.proofs.generated.generate.Goals as goal

pub returns-clause-accepted : goal.returns-clause-accepted
returns-clause-accepted c =
    let is : document_of c.into_bytes.result.items ≡ Some (document_made c.args.count) = ap (λ v. document_of v.items) c.into_bytes.ensures.value ∙ c.in_ok-generated_text.ensures.document in
    subst (λ it. IfSome it (λ document. refusal_of document.files document.reports ≡ None)) (sym is) (accepted c.args.count c.requires)

-- The text is that of the value, and is read as the same document.
use Rattle.std.proofs.Common.{◌≡◌, ◌∙◌, ap, map, sym, subst, false, string_bytes}
use Rattle.std.proofs.lemmas.Str.{IsUtf8-string_bytes}
use Rattle.serde_json.specs.View.{view}
use Rattle.serde_json.specs.Written.{compact_text, has_float}
use Rattle.render_files.specs.Given.{given_report}
use Rattle.documents.proofs.PlainLemmas.{no_float}
use Rattle.documents.proofs.WrittenLemmas.{document_back}
use Rattle.documents.proofs.written.write_document.Goals as goal

pub returns-clause-text : goal.returns-clause-text
returns-clause-text c =
    let whole : has_float (view c.in_ok-document.document) ≡ false =
    ap has_float c.in_ok-document.ensures.value ∙ no_float c.args.files.now (map given_report c.args.reports.now) in
    c.in_ok-text.ensures.text whole ∙ ap compact_text c.in_ok-document.ensures.value

pub returns-clause-reads_back : goal.returns-clause-reads_back
returns-clause-reads_back c = λ fits.
    document_back c.args.files.now c.args.reports.now (string_bytes c.in_ok-text.text) (view c.in_ok-document.document) (IsUtf8-string_bytes c.in_ok-text.text)
    c.in_ok-document.ensures.value c.in_ok-text.ensures.reads_back c.in_ok-document.ensures.short c.in_ok-document.ensures.few c.in_ok-document.ensures.ranges fits

-- The row is from its first column to one past its last.
use Rattle.std.proofs.Common.{◌∙◌, ap, subst}
use Rattle.std.specs.Str.{IsUtf8}
use Rattle.line_reports.specs.Span.{span_of}
use Rattle.json_reports.proofs.RowLemmas.{row_found, whole}
use Rattle.json_reports.proofs.spans.row_at.Goals as goal

pub returns-clause-value : goal.returns-clause-value
returns-clause-value c =
    let text = c.args.source.now.text.now in
    let utf8 : IsUtf8 text = subst IsUtf8 c.as_bytes.ensures.value c.as_bytes.ensures.utf8 in
    c.span_at.ensures.value ∙ ap (λ columns. span_of columns text (whole c.args.line)) c.columns_of.ensures ∙ row_found text c.args.line utf8 c.span_at.ensures.short

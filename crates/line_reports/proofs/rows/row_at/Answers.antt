-- The row of a number that has a start.
use Rattle.std.proofs.Common.{◌≡◌, Some, min, ap, ap₂, sym, ◌∙◌, subst, arith}
use Rattle.source_location.specs.Locations.{counted_from}
use Rattle.sarif_spans.specs.declared.rows.Row.{Row}
use Rattle.sarif_spans.specs.Rows.{IsRowOf, row_at}
use Rattle.line_reports.specs.Rows.{row_end}
use Rattle.line_reports.proofs.RowLemmas.{row_meant, row_past, row_whole, starts_many}
use Rattle.line_reports.proofs.rows.row_at.Goals as goal

pub returns-then-number-line_starts-clause-value : goal.returns-then-number-line_starts-clause-value
returns-then-number-line_starts-clause-value c =
    row_past c.args.text.now c.args.number
    (omega (arith, c.if-number-line_starts.true, starts_many c.args.text.now c.args.index.now c.line_starts.result.now c.requires c.line_starts.ensures.starts))

is_row : (c : goal.After-min-start) → row_at (counted_from c.args.text.now c.args.number) (row_end c.args.text.now c.args.number) ≡ record { start = c.min-start.result; end = c.row_end-end.result }
is_row c =
    let end = c.row_end-end.ensures in
    let start : c.min-start.result ≡ min (counted_from c.args.text.now c.args.number) (row_end c.args.text.now c.args.number) =
    c.min-start.ensures ∙ ap₂ min c.row_begin.ensures end in
    ap₂ (λ a b. let it : Row = record { start = a; end = b } in it) (sym start) (sym end)

pub returns-clause-value : goal.returns-clause-value
returns-clause-value c =
    ap Some (sym (is_row c))
    ∙ sym (row_meant c.args.text.now c.args.number
    (omega (arith, c.if-number-line_starts.false, starts_many c.args.text.now c.args.index.now c.line_starts.result.now c.requires c.line_starts.ensures.starts)))

pub returns-clause-stands : goal.returns-clause-stands
returns-clause-stands c = subst (IsRowOf c.args.text.now) (is_row c) (row_whole c.args.text.now c.args.number c.utf8.text)

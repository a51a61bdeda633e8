-- A row ends where the break starts that ends before the next row.
use Rattle.std.proofs.Common.{◌+◌, ◌≤◌, ap, length, sym, subst, ◌∙◌, arith}
use Rattle.std.proofs.lemmas.Bool.{ltb-true}
use Rattle.line_reports.specs.Rows.{break_start}
use Rattle.line_reports.proofs.RowLemmas.{NextStart, next_start, next_within, row_ends}
use Rattle.line_reports.proofs.rows.row_end.Goals as goal

pub overflow_add-number : goal.overflow_add-number
overflow_add-number c = omega (arith, c.requires.there, ap length c.line_starts.ensures.starts, c.line_starts.ensures.few)

start : (c : goal.After-to_usize) → NextStart c.args.text.now c.args.number c.to_usize.result
start c =
    subst (NextStart c.args.text.now c.args.number) (sym c.to_usize.ensures.number)
    (next_start c.args.text.now c.args.index.now c.line_starts.result.now c.args.number c.in-Some.next.now c.requires.indexed c.line_starts.ensures.starts
    (ltb-true (c.args.number + 1) (length c.line_starts.result.now) (sym c.in-Some.ensures.lookup.0)) c.in-Some.ensures.lookup.1)

pub break_start-requires-clause-some : goal.break_start-requires-clause-some
break_start-requires-clause-some c = omega (arith, (start c).is)

pub break_start-requires-clause-within : goal.break_start-requires-clause-within
break_start-requires-clause-within c =
    subst (λ bytes. c.to_usize.result ≤ length bytes) (sym c.as_bytes.ensures.value) (next_within c.args.text.now c.args.number c.to_usize.result (start c))

pub returns-in-Some : goal.returns-in-Some
returns-in-Some c =
    let start : NextStart c.args.text.now c.args.number c.to_usize.result =
    subst (NextStart c.args.text.now c.args.number) (sym c.to_usize.ensures.number)
    (next_start c.args.text.now c.args.index.now c.line_starts.result.now c.args.number c.in-Some.next.now c.requires.indexed c.line_starts.ensures.starts
    (ltb-true (c.args.number + 1) (length c.line_starts.result.now) (sym c.in-Some.ensures.lookup.0)) c.in-Some.ensures.lookup.1) in
    c.break_start.ensures ∙ ap (λ bytes. break_start bytes c.to_usize.result) c.as_bytes.ensures.value ∙ row_ends c.args.text.now c.args.number c.to_usize.result start

-- The column of a window is no larger than the start of its span.
use Rattle.std.proofs.Common.{◌≡◌, ℕ, ◌-◌, ◌≤◌, ◌==◌, Bool, true, false, List, length, Option, Some, IfSome, if◌then◌else◌, sym, subst, ◌∙◌, arith, ⊎_elim}
use Rattle.std.proofs.lemmas.Bool.{cases_lt}
use Rattle.oxc_span.specs.declared.span.Span.{Span}
use Rattle.oxc_windows.specs.declared.breaks.LineBreak.{LineBreak}
use Rattle.oxc_windows.specs.Breaks.{breaks_of}
use Rattle.oxc_windows.specs.Rows.{is_second_byte, settled, row_start, row_of, byte_column}
use Rattle.oxc_windows.specs.Scan.{Scan, Contents, contents_read}
use Rattle.oxc_windows.proofs.WindowLemmas.{window_of_inside, window_of_past}
use Rattle.oxc_plan.proofs.DrawableLemmas.{column_le as byte_column_low}

column_low : (bare : Bool) (column start : ℕ) → column ≤ start → (if bare then column else 0) ≤ start
column_low true column start low = low
column_low false column start low = omega arith

read_column_low : (scan : Scan) (span : Span) → IfSome (contents_read scan span) (λ contents. contents.column ≤ span.start)
read_column_low scan span =
    let len = length scan.input in
    let list = breaks_of scan.input in
    ⊎_elim
    (λ past. rw (window_of_past len list scan.before scan.after span.start span.end past) tt)
    (λ inside. rw (window_of_inside len list scan.before scan.after span.start span.end inside) (column_low (scan.before == 0) (byte_column len list span.start) span.start (byte_column_low len list span.start)))
    (cases_lt len span.end)

pub column_read : (scan : Scan) (span : Span) (found : Option Contents) (contents : Contents) → found ≡ contents_read scan span → found ≡ Some contents → contents.column ≤ span.start
column_read scan span found contents read is = subst (λ f. IfSome f (λ c. c.column ≤ span.start)) (sym read ∙ is) (read_column_low scan span)

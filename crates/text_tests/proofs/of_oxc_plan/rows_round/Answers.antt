use Rattle.std.proofs.Common.{◌≡◌, ◌∙◌, ℕ, List, Some, ap, sym, length}
use Rattle.oxc_span.specs.declared.span.Span.{Span}
use Rattle.oxc_windows.specs.Breaks.{breaks_of}
use Rattle.oxc_windows.specs.Window.{window_at}
use Rattle.oxc_windows.specs.Scan.{Scan, Contents, contents_read}
use Rattle.oxc_windows.proofs.ReadLemmas.{read_known}
use Rattle.oxc_plan.specs.Rows.{rows_from, rows_in}
use Rattle.text_tests.proofs.of_oxc_plan.rows_round.Goals as goal

-- the rows of what was read are those of the window
rows_read : (text : List ℕ) (scan : Scan) (span : Span) (contents : Contents) → scan.input ≡ text → scan.before ≡ 1 → scan.after ≡ 1 → contents_read scan span ≡ Some contents
    → rows_from contents.line contents.span.start contents.bytes ≡ rows_in text (window_at (length text) (breaks_of text) 1 1 span.start span.end)
rows_read text scan span contents input before after e =
    let known = rw (input, before, after) at (read_known scan span contents e) in
    ap (λ k. rows_from k.line k.span.start k.bytes) known

pub returns-in-Some-clause-rows : goal.returns-in-Some-clause-rows
returns-in-Some-clause-rows c =
    c.in_ok-rows_of-in-Some.ensures
    ∙ rows_read c.args.text.now c.new-scanner.result c.args.span c.in-Some.contents
    (ap (λ s. s.input) c.new-scanner.ensures ∙ c.as_bytes.ensures.value) (ap (λ s. s.before) c.new-scanner.ensures) (ap (λ s. s.after) c.new-scanner.ensures)
    (sym c.in_ok-contents.ensures.read.value ∙ c.in-Some.is)

use Rattle.std.proofs.Common.{◌≡◌, ◌≤◌, Bool, true, false, Some, length, nat_lt, refl, ap, sym, ◌∙◌, arith}
use Rattle.std.proofs.lemmas.Bool.{ltb-false}
use Rattle.oxc_span.specs.declared.span.Span.{Span}
use Rattle.oxc_windows.specs.Breaks.{breaks_of}
use Rattle.oxc_windows.specs.Rows.{row_of, byte_column}
use Rattle.oxc_windows.specs.Window.{window_column, window_of}
use Rattle.oxc_windows.specs.Scan.{Scan, Contents, contents_read}
use Rattle.text_tests.proofs.of_oxc_windows.place.Goals as goal

same_inside : {A : Type 0} (a b : A) → Some a ≡ Some b → a ≡ b
same_inside a b e = cc

-- without rows before, the numbers of what is read are the place of the span's start
place_read : (scan : Scan) (span : Span) (contents : Contents) → scan.before ≡ 0 → contents_read scan span ≡ Some contents
    → (past : Bool) → nat_lt (length scan.input) span.end ≡ past
    → (span.end ≤ length scan.input) × ((contents.line ≡ row_of (breaks_of scan.input) span.start) × (contents.column ≡ byte_column (length scan.input) (breaks_of scan.input) span.start))
unfolding window_of
place_read scan span contents bare e true is = let gone = rw is at e in cc
place_read scan span contents bare e false is =
    let same = same_inside _ contents (rw is at e) in
    let known : contents.column ≡ window_column (length scan.input) (breaks_of scan.input) scan.before span.start = sym (ap (λ v. v.column) same) in
    (ltb-false (length scan.input) span.end is, (omega (arith, ap (λ v. v.line) same), rw bare at known))

pub returns-in-Some-clause-place : goal.returns-in-Some-clause-place
returns-in-Some-clause-place c =
    let read = place_read c.args.scanner.now c.args.span c.in-Some.contents c.requires.bare (sym c.in_ok-contents.ensures.read.value ∙ c.in-Some.is) (nat_lt (length c.args.scanner.now.input) c.args.span.end) refl in
    (read.0, cc (read.1.0, read.1.1, c.line.ensures, c.column.ensures))

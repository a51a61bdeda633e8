-- What a scanner reads of a span that ends within its source.
use Rattle.std.proofs.Common.{◌≡◌, ℕ, ◌+◌, ◌-◌, ◌≤◌, Bool, true, false, List, length, eqb, min, Some, refl, sym, ap, ◌∙◌, arith, zero, suc, ⊎_elim, if◌then◌else◌}
use Rattle.std.proofs.lemmas.Bool.{cases_lt}
use Rattle.std.proofs.lemmas.Bool.Decides.{nat_tests}
use Rattle.std.proofs.Math.Dec.{eqb-suc-zero as not_zero}
use Rattle.oxc_span.specs.declared.span.Span.{Span}
use Rattle.oxc_windows.specs.declared.breaks.LineBreak.{LineBreak}
use Rattle.oxc_windows.specs.declared.window.Window.{Window}
use Rattle.oxc_windows.specs.Breaks.{IsBreakList, breaks_of}
use Rattle.oxc_windows.specs.Rows.{row_of}
use Rattle.oxc_windows.specs.Window.{is_first_byte, window_at, window_begin, window_end, window_of}
use Rattle.oxc_windows.specs.Scan.{Scan, Contents, contents_of, contents_read}
use Rattle.oxc_windows.proofs.RowsLemmas.{few_in_text, row_le}
use Rattle.oxc_windows.proofs.WindowLemmas.{pair_within, row_start_before, row_start_within, window_of_inside, window_of_past}
use Rattle.oxc_windows.proofs.MostLemmas.{end_low}

same_inside : {A : Type 0} (a b : A) → Some a ≡ Some b → a ≡ b
same_inside a b e = cc

-- what is read of a span tells that the span ends within the source
pub read_within : (scan : Scan) (span : Span) (contents : Contents) → contents_read scan span ≡ Some contents → span.end ≤ length scan.input
read_within scan span contents e =
    ⊎_elim
    (λ past. let gone = rw (window_of_past (length scan.input) (breaks_of scan.input) scan.before scan.after span.start span.end past) at e in cc)
    (λ le. le) (cases_lt (length scan.input) span.end)

-- it is what the window has
pub read_known : (scan : Scan) (span : Span) (contents : Contents) → contents_read scan span ≡ Some contents
    → contents ≡ contents_of scan.input (window_at (length scan.input) (breaks_of scan.input) scan.before scan.after span.start span.end)
read_known scan span contents e =
    let le = read_within scan span contents e in
    sym (same_inside _ contents (rw (window_of_inside (length scan.input) (breaks_of scan.input) scan.before scan.after span.start span.end le) at e))

-- what a window of a text is, and where it lies
pub record IsWindowIn (len : ℕ) (list : List LineBreak) (before after start end : ℕ) (w : Window) : Type 0 where
  pub exact : w ≡ window_at len list before after start end
  pub inside : end ≤ len
  pub ordered : w.begin ≤ w.end
  pub within : w.end ≤ len
  pub line : w.line ≤ len
  pub count : w.line_count ≤ len

begin_from : (len : ℕ) (list : List LineBreak) (before start : ℕ) → IsBreakList len list → window_begin len list before start ≤ start
begin_from len list zero start ok = omega arith
begin_from len list (suc b) start ok = rw (not_zero b) (row_start_before len list start (row_of list start - suc b) ok (omega arith))

end_within : (len : ℕ) (list : List LineBreak) (after end : ℕ) → IsBreakList len list → end ≤ len → window_end len list after end ≤ len
unfolding window_end
end_within len list zero end ok le = by_case (is_first_byte list (end - 1)) refl
  where
    lesser : (a b : ℕ) → min a b ≤ a
    lesser a b = omega arith

    by_case : (said : Bool) → is_first_byte list (end - 1) ≡ said → (if said then end - 1 + 2 else min len (end - 1 + 1)) ≤ len
    by_case true e = pair_within len list (end - 1) ok e
    by_case false e = lesser len (end - 1 + 1)
end_within len list (suc a) end ok le = rw (not_zero a) (row_start_within len list _ ok)

pub window_in : (len : ℕ) (list : List LineBreak) (before after start end : ℕ) (w : Window) → IsBreakList len list → start ≤ end → Some w ≡ window_of len list before after start end
    → IsWindowIn len list before after start end w
window_in len list before after start end w ok ordered e =
    ⊎_elim
    (λ past. let gone = e ∙ window_of_past len list before after start end past in cc)
    (λ le.
    let exact : w ≡ window_at len list before after start end = same_inside _ _ (e ∙ window_of_inside len list before after start end le) in
    let begins : w.begin ≡ window_begin len list before start = ap (λ v. v.begin) exact in
    let ends : w.end ≡ window_end len list after end = ap (λ v. v.end) exact in
    let line : w.line ≡ row_of list start - before = ap (λ v. v.line) exact in
    let count : w.line_count ≡ row_of list (window_end len list after end) = ap (λ v. v.line_count) exact in
    let few = few_in_text len list ok in
    record {
      exact = exact;
      inside = le;
      ordered = omega (arith, begins, ends, begin_from len list before start ok, end_low len list after end ok le, ordered);
      within = omega (arith, ends, end_within len list after end ok le);
      line = omega (arith, line, row_le list start, few);
      count = omega (arith, count, row_le list (window_end len list after end), few);
    })
    (cases_lt len end)

-- Where texts end.
use Rattle.std.proofs.Common.{◌≡◌, ℕ, ◌-◌, ◌<◌, ◌≤◌, inl, inr, List, length, slice_index, true, false, refl, arith}
use Rattle.std.proofs.lemmas.Bool.{cases_lt, cases_order}
use Rattle.std.proofs.lemmas.Bool.Decides.{nat_tests}
use Rattle.excerpt_lines.specs.declared.tables.CharClass.TheVariants.{Blank, Ink}
use Rattle.excerpt_lines.specs.Tables.{is_in}
use Rattle.excerpt_lines.specs.Runs.{EachIn, run_end}
use Rattle.excerpt_lines.specs.Items.{IsTextEnd, is_gap, may_stop}

pub ink_not_blank : (c : ℕ) → is_in Ink c ≡ true → is_in Blank c ≡ false
ink_not_blank c so = grind (arith, nat_tests)

pub blank_not_ink : (c : ℕ) → is_in Blank c ≡ true → is_in Ink c ≡ false
blank_not_ink c so = grind (arith, nat_tests)

pub no_blank_is_ink : (c : ℕ) → is_in Blank c ≡ false → is_in Ink c ≡ true
no_blank_is_ink c so = grind (arith, nat_tests)

pub no_ink_is_blank : (c : ℕ) → is_in Ink c ≡ false → is_in Blank c ≡ true
no_ink_is_blank c so = grind (arith, nat_tests)

in_word : (line hung : List ℕ) (k : ℕ) → k < length line → is_in Ink (slice_index line k) ≡ true → may_stop line hung k ≡ false
unfolding may_stop
in_word line hung k within ink = let blank : is_in Blank (slice_index line k) ≡ false = ink_not_blank (slice_index line k) ink in grind (arith, nat_tests)

after_blank : (line hung : List ℕ) (k : ℕ) → is_in Blank (slice_index line (k - 1)) ≡ true → may_stop line hung k ≡ false
unfolding may_stop
after_blank line hung k blank = rw (blank_not_ink (slice_index line (k - 1)) blank) refl

refused : (line hung : List ℕ) (k : ℕ) → k < length line → is_gap line hung k ≡ false → may_stop line hung k ≡ false
unfolding may_stop
refused line hung k within no_gap = grind (arith, nat_tests)

pub gap_inside : (line hung : List ℕ) (end next : ℕ) → next ≡ run_end Blank line end → is_gap line hung end ≡ false → next ≤ length line → next < length line
unfolding is_gap
gap_inside line hung end next is not_so within = grind (arith, nat_tests)

-- the text so far: it may not end earlier
pub record TextSoFar (line hung : List ℕ) (start end : ℕ) : Type 0 where
  pub more : start < end
  pub within : end ≤ length line
  pub ink : is_in Ink (slice_index line (end - 1)) ≡ true
  pub blank : end < length line → is_in Blank (slice_index line end) ≡ true
  pub first : (k : ℕ) → start < k → k < end → may_stop line hung k ≡ false

pub text_begins : (line hung : List ℕ) (start end : ℕ) → start < length line → is_in Ink (slice_index line start) ≡ true → start ≤ end → end ≤ length line
    → EachIn Ink line start end → (end < length line → is_in Ink (slice_index line end) ≡ false) → TextSoFar line hung start end
text_begins line hung start end inside ink from within each stops =
    let more : start < end = elim (cases_lt start end) [
      | inl less ↦ less
      | inr past ↦ (let e : end ≡ start = omega arith in let not_so : is_in Ink (slice_index line start) ≡ false = rw (← e) (stops (omega arith)) in cc)
    ] in record {
      more = more;
      within = within;
      ink = each (end - 1) (omega arith) (omega arith);
      blank = λ less. no_ink_is_blank (slice_index line end) (stops less);
      first = λ k low high. in_word line hung k (omega arith) (each k (omega arith) high);
    }

pub text_goes_on : (line hung : List ℕ) (start end next new : ℕ) → TextSoFar line hung start end → end < length line → end ≤ next → EachIn Blank line end next → next < length line
    → is_in Blank (slice_index line next) ≡ false → is_gap line hung end ≡ false → next ≤ new → new ≤ length line → EachIn Ink line next new
    → (new < length line → is_in Ink (slice_index line new) ≡ false) → TextSoFar line hung start new
text_goes_on line hung start end next new so inside from blanks next_inside next_ink no_gap low within each stops =
    let last = text_begins line hung next new next_inside (no_blank_is_ink (slice_index line next) next_ink) low within each stops in record {
      more = omega (arith, so.more, last.more);
      within = within;
      ink = last.ink;
      blank = last.blank;
      first = λ k above below. elim (cases_order k end) [
        | inl e ↦ rw e (refused line hung end inside no_gap)
        | inr other ↦ elim other [
          | inl less ↦ so.first k above less
          | inr more ↦ elim (cases_lt next k) [
            | inl past ↦ last.first k past below
            | inr not_past ↦ after_blank line hung k (blanks (k - 1) (omega arith) (omega arith))
          ]
        ]
      ];
    }

pub text_stops : (line hung : List ℕ) (start end : ℕ) → TextSoFar line hung start end → end < length line → is_gap line hung end ≡ true → IsTextEnd line hung start end
unfolding may_stop
text_stops line hung start end so inside gap = record {
  more = so.more;
  within = so.within;
  stops = (let ink = so.ink in let blank = so.blank inside in grind (arith, nat_tests));
  first = so.first;
}

pub text_ends : (line hung : List ℕ) (start end : ℕ) → TextSoFar line hung start end → length line ≤ end → IsTextEnd line hung start end
unfolding may_stop
text_ends line hung start end so past = record {
  more = so.more;
  within = so.within;
  stops = (let ink = so.ink in let e : end ≡ length line = omega (arith, so.within) in grind (arith, nat_tests));
  first = so.first;
}

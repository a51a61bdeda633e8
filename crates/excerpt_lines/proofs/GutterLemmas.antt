-- A line has one gutter at most, at one place.
use Rattle.std.proofs.Common.{◌≡◌, ℕ, ◌+◌, ◌<◌, ◌≤◌, inl, inr, slice_range, MatchOption, List, length, slice_index, true, false, Option, Some, None, arith}
use Rattle.std.proofs.lemmas.Bool.{cases_order, cases_lt}
use Rattle.std.proofs.lemmas.Bool.Decides.{nat_tests}
use Rattle.excerpt_lines.specs.declared.tables.CharClass.{CharClass}
use Rattle.excerpt_lines.specs.declared.tables.CharClass.TheVariants.{Blank, Digit}
use Rattle.excerpt_lines.specs.declared.gutter.Gutter.{Gutter}
use Rattle.excerpt_lines.specs.declared.gutter.Sign.{Sign}
use Rattle.excerpt_lines.specs.Tables.{is_in}
use Rattle.excerpt_lines.specs.Runs.{EachIn}
use Rattle.excerpt_lines.specs.Gutter.{HasNoGutter, HasNoSignAt, IsGutter, lead_len, number_of, sign_of}

pub digit_not_blank : (c : ℕ) → is_in Digit c ≡ true → is_in Blank c ≡ false
digit_not_blank c so = grind (arith, nat_tests)

pub blank_not_digit : (c : ℕ) → is_in Blank c ≡ true → is_in Digit c ≡ false
blank_not_digit c so = grind (arith, nat_tests)

pub sign_not_blank : (c next : ℕ) (sign : Sign) → sign_of c next ≡ Some sign → is_in Blank c ≡ false
sign_not_blank c next sign so = grind (arith, nat_tests)

pub sign_not_digit : (c next : ℕ) (sign : Sign) → sign_of c next ≡ Some sign → is_in Digit c ≡ false
sign_not_digit c next sign so = grind (arith, nat_tests)

-- two places where a run ends are one
pub meet : (kind : CharClass) (line : List ℕ) (at x y n : ℕ) → at ≤ x → at ≤ y → y < n → EachIn kind line at x → EachIn kind line at y
    → (x < n → is_in kind (slice_index line x) ≡ false) → is_in kind (slice_index line y) ≡ false → x ≡ y
meet kind line at x y n low_x low_y within each_x each_y stops_x stops_y =
    elim (cases_order x y) [
      | inl e ↦ e
      | inr other ↦ elim other [
        | inl less ↦ (let not_so : is_in kind (slice_index line x) ≡ false = stops_x (omega arith) in let so_is : is_in kind (slice_index line x) ≡ true = each_y x low_x less in cc)
        | inr more ↦ (let so_is : is_in kind (slice_index line y) ≡ true = each_x y low_y more in cc)
      ]
    ]

-- after blanks comes no blank
pub no_gap : (line : List ℕ) (digits_end bar : ℕ) → EachIn Blank line digits_end bar → (digits_end < length line → is_in Blank (slice_index line digits_end) ≡ false) → bar ≤ length line → digits_end ≤ bar → digits_end ≡ bar
no_gap line digits_end bar each stops within ordered =
    elim (cases_order digits_end bar) [
      | inl e ↦ e
      | inr other ↦ elim other [
        | inl less ↦ (let not_so : is_in Blank (slice_index line digits_end) ≡ false = stops (omega arith) in let so_is : is_in Blank (slice_index line digits_end) ≡ true = each digits_end (omega arith) less in cc)
        | inr more ↦ absurd (omega arith)
      ]
    ]

-- what follows the blanks of a gutter is no blank
digits_stop : (line : List ℕ) (g : Gutter) → IsGutter line g → is_in Blank (slice_index line g.digits) ≡ false
digits_stop line g so =
    elim (cases_lt g.digits g.digits_end) [
      | inl some ↦ digit_not_blank (slice_index line g.digits) (so.digits_each g.digits (omega arith) some)
      | inr none ↦ (let first : g.digits ≡ g.digits_end = omega (arith, so.digits_so) in let bar : g.digits ≡ g.bar = omega (arith, so.gap_none first) in
          rw bar (sign_not_blank (slice_index line g.bar) (slice_index line (g.bar + 1)) g.sign so.sign_so.sign_is))
    ]

digits_end_stop : (line : List ℕ) (g : Gutter) → IsGutter line g → is_in Digit (slice_index line g.digits_end) ≡ false
digits_end_stop line g so =
    elim (cases_lt g.digits_end g.bar) [
      | inl some ↦ blank_not_digit (slice_index line g.digits_end) (so.gap g.digits_end (omega arith) some)
      | inr none ↦ (let bar : g.digits_end ≡ g.bar = omega (arith, so.gap_so) in rw bar (sign_not_digit (slice_index line g.bar) (slice_index line (g.bar + 1)) g.sign so.sign_so.sign_is))
    ]

-- where the runs of a line end
pub record AreRuns (line : List ℕ) (digits digits_end bar : ℕ) : Type 0 where
  pub lead : lead_len line ≤ digits
  pub blanks : EachIn Blank line (lead_len line) digits
  pub blanks_end : digits < length line → is_in Blank (slice_index line digits) ≡ false
  pub digits_so : digits ≤ digits_end
  pub digits_each : EachIn Digit line digits digits_end
  pub digits_over : digits_end < length line → is_in Digit (slice_index line digits_end) ≡ false
  pub gap_so : digits_end ≤ bar
  pub gap : EachIn Blank line digits_end bar
  pub gap_end : bar < length line → is_in Blank (slice_index line bar) ≡ false

pub digits_same : (line : List ℕ) (digits digits_end bar : ℕ) (g : Gutter) → AreRuns line digits digits_end bar → IsGutter line g → digits ≡ g.digits
digits_same line digits digits_end bar g runs so =
    meet Blank line (lead_len line) digits g.digits (length line) runs.lead so.lead (omega (arith, so.digits_so, so.gap_so, so.sign_so.within)) runs.blanks so.blanks runs.blanks_end (digits_stop line g so)

pub digits_end_same : (line : List ℕ) (digits digits_end bar : ℕ) (g : Gutter) → AreRuns line digits digits_end bar → IsGutter line g → digits_end ≡ g.digits_end
digits_end_same line digits digits_end bar g runs so =
    let e = digits_same line digits digits_end bar g runs so in
    let each : EachIn Digit line digits g.digits_end = rw e so.digits_each in
    meet Digit line digits digits_end g.digits_end (length line) runs.digits_so (omega (arith, e, so.digits_so)) (omega (arith, so.gap_so, so.sign_so.within)) runs.digits_each each runs.digits_over (digits_end_stop line g so)

pub bar_same : (line : List ℕ) (digits digits_end bar : ℕ) (g : Gutter) → AreRuns line digits digits_end bar → IsGutter line g → bar ≡ g.bar
bar_same line digits digits_end bar g runs so =
    let e = digits_end_same line digits digits_end bar g runs so in
    let each : EachIn Blank line digits_end g.bar = rw e so.gap in
    meet Blank line digits_end bar g.bar (length line) runs.gap_so (omega (arith, e, so.gap_so)) so.sign_so.within runs.gap each runs.gap_end (sign_not_blank (slice_index line g.bar) (slice_index line (g.bar + 1)) g.sign so.sign_so.sign_is)

-- without a sign there is no gutter
pub no_sign : (line : List ℕ) (digits digits_end bar : ℕ) → AreRuns line digits digits_end bar → HasNoSignAt line digits digits_end bar → HasNoGutter line
no_sign line digits digits_end bar runs none = λ g so.
    none g.sign (rw (digits_same line digits digits_end bar g runs so, digits_end_same line digits digits_end bar g runs so, bar_same line digits digits_end bar g runs so) so.sign_so)

no_small : (number : Option ℕ) (digits digits_end : ℕ) (written : Option ℕ) → digits < digits_end → written ≡ None
    → MatchOption number (digits ≡ digits_end) (λ n. (digits < digits_end) × (written ≡ Some n)) → ⊥
no_small None digits digits_end written some large is = omega (arith, is)
no_small (Some n) digits digits_end written some large is = let so_is : written ≡ Some n = is.1 in cc

-- nor without a number that is written so and fits 32 bits
pub no_number : (line : List ℕ) (digits digits_end bar : ℕ) → AreRuns line digits digits_end bar → digits < digits_end → number_of (slice_range line digits digits_end) ≡ None → HasNoGutter line
no_number line digits digits_end bar runs some large = λ g so.
    let d = digits_same line digits digits_end bar g runs so in
    let b = digits_end_same line digits digits_end bar g runs so in
    let big : number_of (slice_range line g.digits g.digits_end) ≡ None = rw (← d, ← b) large in
    no_small g.number g.digits g.digits_end (number_of (slice_range line g.digits g.digits_end)) (omega (arith, d, b)) big so.number_is

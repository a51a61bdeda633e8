-- Runs, one character after another.
use Rattle.std.proofs.Common.{◌≡◌, ℕ, suc, ◌+◌, ◌-◌, ◌*◌, ◌<◌, ◌≤◌, List, [], ◌∷◌, length, drop, slice_index, true, false, refl, arith, drop-cons, add-one, inl, inr}
use Rattle.std.specs.List.{prefix_len}
use Rattle.std.proofs.lemmas.Bool.{cases_lt}
use Rattle.std.proofs.lemmas.List.{drop_all}
use Rattle.excerpt_lines.specs.declared.tables.CharClass.{CharClass}
use Rattle.excerpt_lines.specs.Tables.{is_in}
use Rattle.excerpt_lines.specs.Runs.{run_end, value_from}

cond_true : (class : CharClass) (c : ℕ) (line : List ℕ) → is_in class c ≡ true → prefix_len (is_in class) (c ∷ line) ≡ 1 + prefix_len (is_in class) line
cond_true class c line so = rw so refl

cond_false : (class : CharClass) (c : ℕ) (line : List ℕ) → is_in class c ≡ false → prefix_len (is_in class) (c ∷ line) ≡ 0
cond_false class c line not_so = rw not_so refl

pub run_goes_on : (class : CharClass) (line : List ℕ) (k : ℕ) → k < length line → is_in class (slice_index line k) ≡ true → run_end class line k ≡ run_end class line (k + 1)
unfolding run_end
run_goes_on class line k within so =
    rw (add-one k, drop-cons line k 0 within) (omega (arith, cond_true class (slice_index line k) (drop (suc k) line) so))

pub run_stops : (class : CharClass) (line : List ℕ) (k : ℕ) → (k < length line → is_in class (slice_index line k) ≡ false) → k ≤ length line → run_end class line k ≡ k
unfolding run_end
run_stops class line k not_so within =
    elim (cases_lt k (length line)) [
      | inl inside ↦ rw (drop-cons line k 0 inside) (omega (arith, cond_false class (slice_index line k) (drop (suc k) line) (not_so inside)))
      | inr past ↦ rw (drop_all k line past) (omega arith)
    ]

-- a number grows as digits are added
pub value_grows : (value : ℕ) (digits : List ℕ) → value ≤ value_from value digits
value_grows value [] = omega arith
value_grows value (digit ∷ digits) = omega (arith, value_grows (value * 10 + (digit - 0x30)) digits)

-- Where a text may be cut next to a place.
use Rattle.std.proofs.Common.{◌≡◌, ℕ, ◌+◌, ◌-◌, ◌≤◌, ◌<◌, Bool, true, false, not, List, length, drop, get_or, refl, subst, sym, arith, zero, suc, ⊎_elim}
use Rattle.std.specs.Str.{IsCharBoundary}
use Rattle.std.proofs.lemmas.Bool.{cases_lt, cases_eq}
use Rattle.std.proofs.lemmas.Bool.Decides.{nat_tests}
use Rattle.std.proofs.lemmas.List.{get_or-drop, get_or_past, length-drop}
use Rattle.std.proofs.lemmas.List.Sums.{prefix_len_is}
use Rattle.oxc_plan.specs.Columns.{is_char_start, boundary_down, boundary_up}

-- a boundary begins a character or stands at the end
starts_at : (text : List ℕ) (i : ℕ) → IsCharBoundary text i → is_char_start (get_or text i 0) ≡ true
starts_at text i b = ⊎_elim (λ lt. grind (arith, nat_tests, b.1)) (λ ge. rw (get_or_past text i 0 ge) refl) (cases_lt i (length text))

not_start : (text : List ℕ) (i : ℕ) → i ≤ length text → ¬ (IsCharBoundary text i) → is_char_start (get_or text i 0) ≡ false
not_start text i le cut = decide (is_char_start (get_or text i 0)) refl
  where
    decide : (b : Bool) → is_char_start (get_or text i 0) ≡ b → is_char_start (get_or text i 0) ≡ false
    decide true e = absurd (cut (le, λ lt big. grind (arith, nat_tests)))
    decide false e = e

pub down_is : (text : List ℕ) (o k : ℕ) → k ≤ o → o ≤ length text → IsCharBoundary text k
    → ((i : ℕ) → k < i → i ≤ o → ¬ (IsCharBoundary text i)) → boundary_down text o ≡ k
unfolding boundary_down
down_is text zero k le within here none = omega arith
down_is text (suc o) k le within here none =
    ⊎_elim (λ same. let first : is_char_start (get_or text (suc o) 0) ≡ true = starts_at text (suc o) (subst (λ i. IsCharBoundary text i) same here) in rw first (sym same))
    (λ other. rw (not_start text (suc o) within (none (suc o) (omega arith) (omega arith))) (down_is text o k (omega arith) (omega arith) here (λ i low high. none i low (omega arith))))
    (cases_eq k (suc o))

pub up_is : (text : List ℕ) (o k : ℕ) → o ≤ k → o ≤ length text → IsCharBoundary text k
    → ((i : ℕ) → o ≤ i → i < k → ¬ (IsCharBoundary text i)) → boundary_up text o ≡ k
unfolding boundary_up
up_is text o k le within here none =
    let size : length (drop o text) ≡ length text - o = length-drop o text in
    let all : (j : ℕ) → j < k - o → not (is_char_start (get_or (drop o text) j 0)) ≡ true =
    λ j h. rw (get_or-drop o text j 0, not_start text (o + j) (omega (arith, here.0)) (none (o + j) (omega arith) (omega arith))) refl in
    let last : k - o < length (drop o text) → not (is_char_start (get_or (drop o text) (k - o) 0)) ≡ false =
    λ h. let back : o + (k - o) ≡ k = omega arith in rw (get_or-drop o text (k - o) 0, back, starts_at text k here) refl in
    omega (arith, prefix_len_is (λ byte. not (is_char_start byte)) (drop o text) (k - o) 0 (omega (arith, here.0, size)) all last)

-- The breaks of a text: their ends rise, they end in ASCII, and there are no more of them than bytes.
use Rattle.std.proofs.Common.{◌≡◌, ℕ, ◌+◌, ◌<◌, ◌≤◌, List, length, get_or, Option, Some, None, refl, sym, subst, arith, suc, zero, All, ⊎_elim}
use Rattle.std.proofs.lemmas.Bool.Decides.{nat_tests}
use Rattle.std.proofs.lemmas.List.{length-append}
use Rattle.std.specs.List.Sorted.{IsNonDecreasingBy}
use Rattle.std.proofs.lemmas.Bool.{cases_lt}
use Rattle.oxc_windows.specs.declared.breaks.LineBreak.{LineBreak}
use Rattle.oxc_windows.specs.Breaks.{break_at, breaks_before, breaks_of, AreBreaks, IsBreakList}
pub use Rattle.oxc_windows.specs.Valid.{StartsBefore, breaks_before_more, breaks_before_found, breaks_before_none, breaks_before_start, breaks_start, breaks_valid}

-- the same for a list that is known to be the breaks
pub index_valid : (bytes : List ℕ) (list : List LineBreak) → list ≡ breaks_of bytes → IsBreakList (length bytes) list
index_valid bytes list e = subst (λ l. IsBreakList (length bytes) l) (sym e) (breaks_valid bytes)

-- the ends rise, which is what a search by end asks
pub rising_ends : (list : List LineBreak) → AreBreaks list → IsNonDecreasingBy (λ b. b.end) list
rising_ends list ok i j d le h =
    ⊎_elim (λ lt. omega (arith, ok.apart i j d lt h, (ok.shape j d h).0))
    (λ ge. let same : i ≡ j = omega arith in let least : (get_or list i d).end ≤ (get_or list i d).end = omega arith in subst (λ m. (get_or list i d).end ≤ (get_or list m d).end) same least) (cases_lt i j)

ends_ascii : (bytes : List ℕ) (b : LineBreak) → break_at bytes b.start ≡ Some b → get_or bytes b.end 0 < 128
ends_ascii bytes b e = grind (arith, nat_tests)

-- each break is one that the bytes have
pub breaks_found : (bytes : List ℕ) → All (StartsBefore bytes (length bytes)) (breaks_of bytes)
unfolding breaks_of
breaks_found bytes = breaks_start bytes (length bytes)

few_more : (bytes : List ℕ) (n : ℕ) (found : Option LineBreak) → break_at bytes n ≡ found → length (breaks_before bytes n) ≤ n → length (breaks_before bytes (n + 1)) ≤ n + 1
few_more bytes n None e le = rw (breaks_before_none bytes n e) (omega (arith, le))
few_more bytes n (Some b) e le = rw (breaks_before_found bytes n b e) (rw length-append (omega (arith, le)))

pub few_before : (bytes : List ℕ) (n : ℕ) → length (breaks_before bytes n) ≤ n
few_before bytes zero = rw breaks_before_start (omega arith)
few_before bytes (suc n) =
    let one_more : n + 1 ≡ suc n = omega arith in
    subst (λ m. length (breaks_before bytes m) ≤ m) one_more (few_more bytes n (break_at bytes n) refl (few_before bytes n))

-- no more breaks than bytes
pub few_breaks : (bytes : List ℕ) → length (breaks_of bytes) ≤ length bytes
unfolding breaks_of
few_breaks bytes = few_before bytes (length bytes)

-- the last byte of a break is ASCII
pub break_ends_ascii : (bytes : List ℕ) (k : ℕ) (d : LineBreak) → k < length (breaks_of bytes) → get_or bytes (get_or (breaks_of bytes) k d).end 0 < 128
break_ends_ascii bytes k d h = ends_ascii bytes (get_or (breaks_of bytes) k d) (breaks_found bytes k d h).0

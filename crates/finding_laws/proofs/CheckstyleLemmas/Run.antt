-- Runs of bytes of a class, by the test that the class is.
use Rattle.std.proofs.Common.{◌≡◌, ◌∙◌, ℕ, suc, ◌+◌, ◌==◌, not, if◌then◌else◌, List, [], ◌∷◌, ◌++◌, length, Bool, true, false, ap, arith, refl}
use Rattle.std.specs.List.{list_any}
use Rattle.std.proofs.lemmas.Bool.{eq-eqb, or_parts}
use Rattle.xml_values.specs.Marks.{is_of, run_len}

-- how many of the first bytes pass a test
abbrev pub run_by : (ℕ → Bool) → List ℕ → ℕ
run_by test [] = 0
run_by test (x ∷ xs) = if test x then suc (run_by test xs) else 0

stepped : (at far near : ℕ) (goes : Bool) → far ≡ at + suc near → (if goes then far else at) ≡ at + (if goes then suc near else 0)
stepped at far near true is = is
stepped at far near false is = omega arith

run_len_from : (class : _) (at : ℕ) (bytes : List ℕ) → run_len class at bytes ≡ at + run_by (is_of class) bytes
run_len_from class at [] = omega arith
run_len_from class at (x ∷ xs) = stepped at (run_len class (at + 1) xs) (run_by (is_of class) xs) (is_of class x) (omega (arith, run_len_from class (at + 1) xs))

pub run_len_zero : (class : _) (bytes : List ℕ) → run_len class 0 bytes ≡ run_by (is_of class) bytes
run_len_zero class bytes = omega (arith, run_len_from class 0 bytes)

-- ---- up to a byte that a text hasn't

abbrev pub has_not : ℕ → List ℕ → Type 0
has_not stop text = list_any (λ byte. byte == stop) text ≡ false

pub run_until : (stop : ℕ) (text rest : List ℕ) → has_not stop text → run_by (λ byte. not (byte == stop)) (text ++ stop ∷ rest) ≡ length text
run_until stop [] rest none = ap (λ b. if not b then suc (run_by (λ byte. not (byte == stop)) rest) else 0) (eq-eqb stop stop refl)
run_until stop (x ∷ xs) rest none =
    let parts = or_parts (x == stop) (list_any (λ byte. byte == stop) xs) none in
    ap (λ b. if not b then suc (run_by (λ byte. not (byte == stop)) (xs ++ stop ∷ rest)) else 0) parts.0 ∙ ap suc (run_until stop xs rest parts.1)

-- One turn of reading a content, and of skipping what stands round an element.
use Rattle.std.proofs.Common.{◌≡◌, ◌∙◌, ℕ, zero, suc, ◌+◌, ◌-◌, ◌<◌, ◌≤◌, List, [], ◌∷◌, Bool, true, false, Option, Some, None, ap, arith, refl}
use Rattle.xml_values.specs.Marks.{past_blanks}
use Rattle.xml_values.specs.Element.{Parts, Reading, content, content_next, content_step, passed}
use Rattle.xml_values.specs.Document.{skip_next, skipped}

content_one : (element : Reading) (n : ℕ) (parts : Parts) (rest : List ℕ) → 0 < n → content element n parts rest ≡ content_next (content element (n - 1)) (content_step element parts rest)
unfolding content
content_one element zero parts rest h = absurd (omega arith)
content_one element (suc n) parts rest h =
    let same : n ≡ suc n - 1 = omega arith in
    ap (λ k. content_next (content element k) (content_step element parts rest)) same

pub content_no : (element : Reading) (n : ℕ) (parts : Parts) (rest : List ℕ) → 0 < n → content_step element parts rest ≡ None → content element n parts rest ≡ None
content_no element n parts rest h none = content_one element n parts rest h ∙ ap (content_next (content element (n - 1))) none

pub content_end : (element : Reading) (n : ℕ) (parts later : Parts) (rest more : List ℕ) → 0 < n → content_step element parts rest ≡ Some (true, later, more) → content element n parts rest ≡ Some (later, more)
content_end element n parts later rest more h is = content_one element n parts rest h ∙ ap (content_next (content element (n - 1))) is

one_part : (element : Reading) (n : ℕ) (parts later : Parts) (rest more : List ℕ) → 0 < n → content_step element parts rest ≡ Some (false, later, more)
    → content element n parts rest ≡ content element (n - 1) later more
one_part element n parts later rest more h is = content_one element n parts rest h ∙ ap (content_next (content element (n - 1))) is

skipped_one : (n : ℕ) (rest : List ℕ) → 0 < n → skipped n rest ≡ skip_next (skipped (n - 1)) (past_blanks rest) (passed (past_blanks rest))
unfolding skipped
skipped_one zero rest h = absurd (omega arith)
skipped_one (suc n) rest h =
    let same : n ≡ suc n - 1 = omega arith in
    ap (λ k. skip_next (skipped k) (past_blanks rest) (passed (past_blanks rest))) same

pub skipped_end : (n : ℕ) (rest : List ℕ) → 0 < n → passed (past_blanks rest) ≡ None → skipped n rest ≡ past_blanks rest
skipped_end n rest h none = skipped_one n rest h ∙ ap (skip_next (skipped (n - 1)) (past_blanks rest)) none

one_skipped : (n : ℕ) (rest more : List ℕ) → 0 < n → passed (past_blanks rest) ≡ Some more → skipped n rest ≡ skipped (n - 1) more
one_skipped n rest more h is = skipped_one n rest h ∙ ap (skip_next (skipped (n - 1)) (past_blanks rest)) is

pub content_turn : (element : Reading) (len turn : ℕ) (parts later : Parts) (rest more : List ℕ) → turn < len + 1 → content_step element parts rest ≡ Some (false, later, more)
    → content element (len + 1 - turn) parts rest ≡ content element (len + 1 - (turn + 1)) later more
content_turn element len turn parts later rest more h is =
    let less : len + 1 - turn - 1 ≡ len + 1 - (turn + 1) = omega arith in
    one_part element (len + 1 - turn) parts later rest more (omega arith) is ∙ ap (λ k. content element k later more) less

pub content_spent : (element : Reading) (len turn : ℕ) (parts : Parts) (rest : List ℕ) → len + 1 ≤ turn → content element (len + 1 - turn) parts rest ≡ None
unfolding content
content_spent element len turn parts rest h =
    let none : len + 1 - turn ≡ 0 = omega arith in
    ap (λ k. content element k parts rest) none

pub skipped_turn : (len turn : ℕ) (rest more : List ℕ) → turn < len + 1 → passed (past_blanks rest) ≡ Some more → skipped (len + 1 - turn) rest ≡ skipped (len + 1 - (turn + 1)) more
skipped_turn len turn rest more h is =
    let less : len + 1 - turn - 1 ≡ len + 1 - (turn + 1) = omega arith in
    one_skipped (len + 1 - turn) rest more (omega arith) is ∙ ap (λ k. skipped k more) less

pub skipped_spent : (len turn : ℕ) (rest : List ℕ) → len + 1 ≤ turn → skipped (len + 1 - turn) rest ≡ rest
unfolding skipped
skipped_spent len turn rest h =
    let none : len + 1 - turn ≡ 0 = omega arith in
    ap (λ k. skipped k rest) none

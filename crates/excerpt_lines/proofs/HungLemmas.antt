-- Places of cells that ascend, in a line of characters of one cell.
use Rattle.std.proofs.Common.{◌≡◌, ℕ, suc, ◌+◌, ◌<◌, ◌≤◌, ◌==◌, ◌||◌, ◌&&◌, nat_le, nat_lt, if◌then◌else◌, Bool, true, false, List, [], ◌∷◌, length, refl, sym, ap, ap₂, subst, ◌∙◌, arith, inl, inr}
use Rattle.std.proofs.lemmas.Bool.{and_parts, cases_lt}
use Rattle.std.proofs.lemmas.Bool.Decides.{nat_tests}
use Rattle.std.specs.List.{list_all, list_any}
use Rattle.excerpt_lines.specs.Cells.{ascend, below, is_printable, places_from, step}
use Rattle.excerpt_lines.proofs.CellLemmas.{none_from, one_cell}

none_at : (k least : ℕ) (cells : List ℕ) → k < least → ascend least cells ≡ true → list_any (λ one. one == k) cells ≡ false
none_at k least [] less up = refl
none_at k least (d ∷ ds) less up =
    let parts = and_parts (nat_le least d) (ascend (d + 1) ds) up in
    let more : k < d + 1 = grind (arith, nat_tests, parts.0, less) in
    let differs : (d == k) ≡ false = grind (arith, nat_tests, parts.0, less) in
    ap₂ ◌||◌ differs (none_at k (d + 1) ds more parts.1)

-- a cell that is past is looked for no more
past_first : (d k j : ℕ) (ds line : List ℕ) → d < j → places_from (d ∷ ds) k j line ≡ places_from ds k j line
past_first d k j ds [] less = refl
past_first d k j ds (c ∷ cs) less =
    let differs : (d == j) ≡ false = grind (arith, nat_tests, less) in
    let next = past_first d (k + 1) (j + step j c) ds cs (omega (arith, less)) in
    ap₂ (λ (b : Bool) (p : List ℕ). if b || list_any (λ one. one == j) ds then k ∷ p else p) differs next

ascend_places : (k : ℕ) (cells line : List ℕ) → ascend k cells ≡ true → list_all is_printable line ≡ true → places_from cells k k line ≡ below (k + length line) cells
ascend_places k [] line up all = none_from k k line
ascend_places k (d ∷ ds) [] up all =
    let parts = and_parts (nat_le k d) (ascend (d + 1) ds) up in
    grind (arith, nat_tests, parts.0)
ascend_places k (d ∷ ds) (c ∷ cs) up all =
    let parts = and_parts (nat_le k d) (ascend (d + 1) ds) up in
    let alls = and_parts (is_printable c) (list_all is_printable cs) all in
    let one = one_cell k c alls.0 in
    let same : k + 1 + length cs ≡ k + suc (length cs) = omega arith in
    elim (cases_lt k d) [
      | inl less ↦
          (let from : nat_le (k + 1) d ≡ true = grind (arith, nat_tests, less) in
          let next = ascend_places (k + 1) (d ∷ ds) cs (ap₂ ◌&&◌ from parts.1) alls.1 in
          let differs : (d == k) ≡ false = grind (arith, nat_tests, less) in
          let none = ap₂ ◌||◌ differs (none_at k (d + 1) ds (omega (arith, less)) parts.1) in
          ap₂ (λ (b : Bool) (s : ℕ). if b then k ∷ places_from (d ∷ ds) (k + 1) (k + s) cs else places_from (d ∷ ds) (k + 1) (k + s) cs) none one
          ∙ (next ∙ ap (λ e. below e (d ∷ ds)) same))
      | inr past ↦
          (let here : d ≡ k = grind (arith, nat_tests, parts.0, past) in
          let is : (d == k) ≡ true = grind (arith, nat_tests, here) in
          let up_on : ascend (k + 1) ds ≡ true = subst (λ e. ascend (e + 1) ds ≡ true) here parts.1 in
          let next = past_first d (k + 1) (k + 1) ds cs (omega (arith, here)) ∙ ascend_places (k + 1) ds cs up_on alls.1 in
          let within : nat_lt d (k + suc (length cs)) ≡ true = grind (arith, nat_tests, here) in
          ap₂ (λ (b : Bool) (s : ℕ). if b || list_any (λ one. one == k) ds then k ∷ places_from (d ∷ ds) (k + 1) (k + s) cs else places_from (d ∷ ds) (k + 1) (k + s) cs) is one
          ∙ (ap₂ (λ (e : ℕ) (p : List ℕ). e ∷ p) (sym here) (next ∙ ap (λ e. below e ds) same)
          ∙ sym (ap (λ (b : Bool). if b then d ∷ below (k + suc (length cs)) ds else []) within)))
    ]

pub hung_below : (cells line : List ℕ) → ascend 0 cells ≡ true → list_all is_printable line ≡ true → places_from cells 0 0 line ≡ below (length line) cells
hung_below cells line up all =
    let same : 0 + length line ≡ length line = omega arith in
    ascend_places 0 cells line up all ∙ ap (λ e. below e cells) same

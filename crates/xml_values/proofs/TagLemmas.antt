-- One turn of reading attributes.
use Rattle.std.proofs.Common.{◌≡◌, ◌∙◌, ℕ, zero, suc, ◌+◌, ◌-◌, ◌<◌, ◌≤◌, List, [], ◌∷◌, ◌++◌, Bool, true, false, if◌then◌else◌, Option, Some, None, map, ap, ap₂, arith, refl, sym}
use Rattle.xml_values.specs.declared.marks.Class.TheVariants.{Blank}
use Rattle.xml_values.specs.Marks.{run, past_blanks, begins_name}
use Rattle.xml_values.specs.Tag.{Attribute, added, attribute, attributes, is_empty, may_add}

turn_of : ℕ → List Attribute → List ℕ → Bool → Bool → Option (List Attribute × List ℕ)
turn_of n earlier rest named bare = if named then if bare then None else added (attributes n) earlier (attribute (past_blanks rest)) else Some (earlier, past_blanks rest)

attributes_step : (n : ℕ) (earlier : List Attribute) (rest : List ℕ) → 0 < n → attributes n earlier rest ≡ turn_of (n - 1) earlier rest (begins_name (past_blanks rest)) (is_empty (run Blank rest))
unfolding attributes turn_of
attributes_step zero earlier rest h = absurd (omega arith)
attributes_step (suc n) earlier rest h =
    let same : n ≡ suc n - 1 = omega arith in
    ap (λ k. turn_of k earlier rest (begins_name (past_blanks rest)) (is_empty (run Blank rest))) same

pub attributes_end : (n : ℕ) (earlier : List Attribute) (rest : List ℕ) → 0 < n → begins_name (past_blanks rest) ≡ false → attributes n earlier rest ≡ Some (earlier, past_blanks rest)
unfolding turn_of
attributes_end n earlier rest h none = attributes_step n earlier rest h ∙ ap (λ b. turn_of (n - 1) earlier rest b (is_empty (run Blank rest))) none

pub attributes_bare : (n : ℕ) (earlier : List Attribute) (rest : List ℕ) → 0 < n → begins_name (past_blanks rest) ≡ true → is_empty (run Blank rest) ≡ true → attributes n earlier rest ≡ None
unfolding turn_of
attributes_bare n earlier rest h some bare =
    attributes_step n earlier rest h ∙ ap (λ b. turn_of (n - 1) earlier rest b (is_empty (run Blank rest))) some ∙ ap (turn_of (n - 1) earlier rest true) bare

attributes_one : (n : ℕ) (earlier : List Attribute) (rest : List ℕ) → 0 < n → begins_name (past_blanks rest) ≡ true → is_empty (run Blank rest) ≡ false
    → attributes n earlier rest ≡ added (attributes (n - 1)) earlier (attribute (past_blanks rest))
unfolding turn_of
attributes_one n earlier rest h some blank =
    attributes_step n earlier rest h ∙ ap (λ b. turn_of (n - 1) earlier rest b (is_empty (run Blank rest))) some ∙ ap (turn_of (n - 1) earlier rest true) blank

pub attributes_no : (n : ℕ) (earlier : List Attribute) (rest : List ℕ) → 0 < n → begins_name (past_blanks rest) ≡ true → is_empty (run Blank rest) ≡ false → attribute (past_blanks rest) ≡ None
    → attributes n earlier rest ≡ None
attributes_no n earlier rest h some blank none = attributes_one n earlier rest h some blank ∙ ap (added (attributes (n - 1)) earlier) none

read_one : (n : ℕ) (earlier : List Attribute) (rest : List ℕ) (it : Attribute) (more : List ℕ) → 0 < n → begins_name (past_blanks rest) ≡ true → is_empty (run Blank rest) ≡ false
    → attribute (past_blanks rest) ≡ Some (it, more) → attributes n earlier rest ≡ (if may_add earlier it then attributes (n - 1) (earlier ++ it ∷ []) more else None)
read_one n earlier rest it more h some blank is = attributes_one n earlier rest h some blank ∙ ap (added (attributes (n - 1)) earlier) is

choose : Option (List Attribute × List ℕ) → Bool → Option (List Attribute × List ℕ)
choose more b = if b then more else None

pub attributes_twice : (n : ℕ) (earlier : List Attribute) (rest : List ℕ) (it : Attribute) (more : List ℕ) → 0 < n → begins_name (past_blanks rest) ≡ true → is_empty (run Blank rest) ≡ false
    → attribute (past_blanks rest) ≡ Some (it, more) → may_add earlier it ≡ false → attributes n earlier rest ≡ None
unfolding choose
attributes_twice n earlier rest it more h some blank is never =
    read_one n earlier rest it more h some blank is ∙ ap (choose (attributes (n - 1) (earlier ++ it ∷ []) more)) never

one_more : (n : ℕ) (earlier : List Attribute) (rest : List ℕ) (it : Attribute) (more : List ℕ) → 0 < n → begins_name (past_blanks rest) ≡ true → is_empty (run Blank rest) ≡ false
    → attribute (past_blanks rest) ≡ Some (it, more) → may_add earlier it ≡ true → attributes n earlier rest ≡ attributes (n - 1) (earlier ++ it ∷ []) more
unfolding choose
one_more n earlier rest it more h some blank is may =
    read_one n earlier rest it more h some blank is ∙ ap (choose (attributes (n - 1) (earlier ++ it ∷ []) more)) may

pub attributes_turn : (len turn : ℕ) (earlier later : List Attribute) (rest : List ℕ) (it : Attribute) (more : List ℕ) → turn < len + 1 → begins_name (past_blanks rest) ≡ true → is_empty (run Blank rest) ≡ false
    → attribute (past_blanks rest) ≡ Some (it, more) → may_add earlier it ≡ true → later ≡ earlier ++ it ∷ [] → attributes (len + 1 - turn) earlier rest ≡ attributes (len + 1 - (turn + 1)) later more
attributes_turn len turn earlier later rest it more h some blank is may pushed =
    let less : len + 1 - turn - 1 ≡ len + 1 - (turn + 1) = omega arith in
    one_more (len + 1 - turn) earlier rest it more (omega arith) some blank is may ∙ ap₂ (λ k l. attributes k l more) less (sym pushed)

pub attributes_spent : (len turn : ℕ) (earlier : List Attribute) (rest : List ℕ) → len + 1 ≤ turn → attributes (len + 1 - turn) earlier rest ≡ None
unfolding attributes
attributes_spent len turn earlier rest h =
    let none : len + 1 - turn ≡ 0 = omega arith in
    ap (λ k. attributes k earlier rest) none

pub one_added : {A B : Type 0} (f : A → B) (xs : List A) (x : A) → map f (xs ++ x ∷ []) ≡ map f xs ++ f x ∷ []
one_added f [] x = refl
one_added f (y ∷ ys) x = ap (λ rest. f y ∷ rest) (one_added f ys x)

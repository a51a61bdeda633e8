-- Runs that are spelled as they are; the inverse of a spelling, and bytes that it has none of.
use Rattle.std.proofs.Common.{◌≡◌, ℕ, suc, ◌+◌, ◌<◌, ◌≤◌, Bool, true, false, cond, not, List, [], ◌∷◌, ◌++◌, length, take, drop, get_or, Option, Some, None, refl, ap, ◌∙◌, sym, inl, inr, ◌⊎◌, arith}
use Rattle.std.specs.List.{flat_map, list_any, position, position_or_len}
use Rattle.std.specs.Option.{is_some}
use Rattle.std.proofs.lemmas.Bool.{cases_lt, le-ltb, lt-ltb, or_from, or_parts}
use Rattle.std.proofs.lemmas.List.{drop_more, drop_all, take_all, append-nil}
use Rattle.std.proofs.lemmas.List.Sums.{passes_at_first}
use Rattle.escapes.specs.Escape.{spelled_as, spell, escaped, is_spelled, IsSpelledAt, IsFirstSpelled}

plain_as : (x : ℕ) (text : Option (List ℕ)) → is_some text ≡ false → spelled_as x text ≡ x ∷ []
plain_as x None plain = refl
plain_as x (Some text) plain = cc

run_byte : (spelled : ℕ → Option (List ℕ)) (needs : Bool) (x n : ℕ) (xs : List ℕ) → needs ≡ is_spelled spelled x → escaped spelled xs ≡ take n xs ++ escaped spelled (drop n xs)
    → escaped spelled (x ∷ xs) ≡ take (cond (not needs) (1 + n) 0) (x ∷ xs) ++ escaped spelled (drop (cond (not needs) (1 + n) 0) (x ∷ xs))
unfolding escaped
run_byte spelled true x n xs is ih = refl
run_byte spelled false x n xs is ih =
    let next : suc n ≡ 1 + n = omega arith in
    (λ i. plain_as x (spelled x) (sym is) i ++ ih i) ∙ ap (λ k. take k (x ∷ xs) ++ escaped spelled (drop k (x ∷ xs))) next

escaped_run : (spelled : ℕ → Option (List ℕ)) (xs : List ℕ) → escaped spelled xs ≡ take (position_or_len (is_spelled spelled) xs) xs ++ escaped spelled (drop (position_or_len (is_spelled spelled) xs) xs)
unfolding escaped
escaped_run spelled [] = refl
escaped_run spelled (x ∷ xs) = run_byte spelled (is_spelled spelled x) x (position_or_len (is_spelled spelled) xs) xs refl (escaped_run spelled xs)

spelled_at : (spelled : ℕ → Option (List ℕ)) (xs : List ℕ) → ((x : ℕ) → is_some (spelled x) ≡ true → x < 128) → position_or_len (is_spelled spelled) xs < length xs → IsSpelledAt spelled xs (position_or_len (is_spelled spelled) xs)
unfolding escaped
spelled_at spelled xs ascii lt =
    let at = position_or_len (is_spelled spelled) xs in
    record {
      within = lt;
      ascii = ascii (get_or xs at 0) (passes_at_first (is_spelled spelled) xs 0 lt);
      parts = escaped_run spelled xs ∙ ap (λ l. take at xs ++ escaped spelled l) (drop_more xs at 0 lt);
    }

none_spelled : (spelled : ℕ → Option (List ℕ)) (xs : List ℕ) → length xs ≤ position_or_len (is_spelled spelled) xs → escaped spelled xs ≡ xs
unfolding escaped
none_spelled spelled xs all =
    let at = position_or_len (is_spelled spelled) xs in
    escaped_run spelled xs ∙ ap (λ l. take at xs ++ escaped spelled l) (drop_all at xs all) ∙ append-nil (take at xs) ∙ take_all at xs all

pub first_found : (spelled : ℕ → Option (List ℕ)) (xs : List ℕ) (answer : Option ℕ) → ((x : ℕ) → is_some (spelled x) ≡ true → x < 128) → answer ≡ position (is_spelled spelled) xs → IsFirstSpelled spelled xs answer
first_found spelled xs answer ascii is = go (cases_lt (position_or_len (is_spelled spelled) xs) (length xs))
  where
    go : (position_or_len (is_spelled spelled) xs < length xs) ⊎ (length xs ≤ position_or_len (is_spelled spelled) xs) → IsFirstSpelled spelled xs answer
    go (inl lt) = rw (is, lt-ltb _ _ lt) (spelled_at spelled xs ascii lt)
    go (inr all) = rw (is, le-ltb _ _ all) (none_spelled spelled xs all)

-- ---- the inverse

-- what turns back each byte in front of any text, turns back each text
pub escaped_back : (spelled : ℕ → Option (List ℕ)) (back : List ℕ → List ℕ) → back [] ≡ [] → ((x : ℕ) (rest : List ℕ) → back (spell spelled x ++ rest) ≡ x ∷ back rest) → (text : List ℕ) → back (escaped spelled text) ≡ text
unfolding escaped
escaped_back spelled back none byte [] = none
escaped_back spelled back none byte (x ∷ xs) = byte x (flat_map (spell spelled) xs) ∙ ap (λ l. x ∷ l) (escaped_back spelled back none byte xs)

-- ---- bytes that a spelling has none of

pub none_append : (test : ℕ → Bool) (xs ys : List ℕ) → list_any test xs ≡ false → list_any test ys ≡ false → list_any test (xs ++ ys) ≡ false
none_append test [] ys left right = right
none_append test (x ∷ xs) ys left right =
    let parts = or_parts (test x) (list_any test xs) left in
    or_from (test x) (list_any test (xs ++ ys)) parts.0 (none_append test xs ys parts.1 right)

pub escaped_free : (spelled : ℕ → Option (List ℕ)) (test : ℕ → Bool) → ((x : ℕ) → list_any test (spell spelled x) ≡ false) → (text : List ℕ) → list_any test (escaped spelled text) ≡ false
unfolding escaped
escaped_free spelled test byte [] = refl
escaped_free spelled test byte (x ∷ xs) = none_append test (spell spelled x) (flat_map (spell spelled) xs) (byte x) (escaped_free spelled test byte xs)

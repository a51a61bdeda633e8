-- Runs without an escape, and escapes turned back.
use Rattle.std.proofs.Common.{◌≡◌, ℕ, zero, suc, ◌+◌, ◌<◌, ◌≤◌, Bool, true, false, cond, not, ◌||◌, ◌==◌, nat_lt, List, [], ◌∷◌, ◌++◌, length, take, drop, get_or, Option, None, refl, sym, ap, ◌∙◌, subst, inl, inr, ◌⊎◌, arith}
use Rattle.std.specs.List.{position, position_or_len}
use Rattle.std.proofs.lemmas.Bool.{cases_eq, cases_lt, ne_eqb, le-ltb, or_parts, eqb-false, ltb-false, lt-ltb}
use Rattle.std.proofs.lemmas.Bool.Decides.{nat_tests}
use Rattle.std.proofs.lemmas.List.{drop_more, drop_all, take_all, append-nil}
use Rattle.std.proofs.lemmas.List.Sums.{passes_at_first}
use Rattle.oxc_handlers.specs.JsonEscape.{needs_escape, hex_escape, escape_byte, escape, IsEscapedAt, IsFirstEscape, escaped_first, unescape_from, unescape_first, ComesBack}

pub escape_byte_plain : (x : ℕ) → needs_escape x ≡ false → escape_byte x ≡ x ∷ []
unfolding escape_byte
escape_byte_plain x plain =
    let outer = or_parts (nat_lt x 0x20 || (x == 0x22)) (x == 0x5C) plain in
    let inner = or_parts (nat_lt x 0x20) (x == 0x22) outer.0 in
    let high : 0x20 ≤ x = ltb-false x 0x20 inner.0 in
    rw (inner.1, outer.1, ne_eqb x 0x08 (λ e. omega arith), ne_eqb x 0x09 (λ e. omega arith), ne_eqb x 0x0A (λ e. omega arith), ne_eqb x 0x0C (λ e. omega arith), ne_eqb x 0x0D (λ e. omega arith), inner.0)

run_byte : (needs : Bool) (x n : ℕ) (xs : List ℕ) → needs ≡ needs_escape x → escape xs ≡ take n xs ++ escape (drop n xs)
    → escape (x ∷ xs) ≡ take (cond (not needs) (1 + n) 0) (x ∷ xs) ++ escape (drop (cond (not needs) (1 + n) 0) (x ∷ xs))
run_byte true x n xs is ih = refl
run_byte false x n xs is ih =
    let next : suc n ≡ 1 + n = omega arith in
    (λ i. escape_byte_plain x (sym is) i ++ ih i) ∙ ap (λ k. take k (x ∷ xs) ++ escape (drop k (x ∷ xs))) next

-- a run stands as it is
pub escape_run : (xs : List ℕ) → escape xs ≡ take (position_or_len needs_escape xs) xs ++ escape (drop (position_or_len needs_escape xs) xs)
escape_run [] = refl
escape_run (x ∷ xs) = run_byte (needs_escape x) x (position_or_len needs_escape xs) xs refl (escape_run xs)

escaped_ascii : (x : ℕ) → needs_escape x ≡ true → x < 128
escaped_ascii x needed = grind (arith, nat_tests)

escaped_at : (xs : List ℕ) → position_or_len needs_escape xs < length xs → IsEscapedAt xs (position_or_len needs_escape xs)
escaped_at xs lt =
    let at = position_or_len needs_escape xs in
    record {
      within = lt;
      needed = passes_at_first needs_escape xs 0 lt;
      ascii = escaped_ascii (get_or xs at 0) (passes_at_first needs_escape xs 0 lt);
      parts = escape_run xs ∙ ap (λ l. take at xs ++ escape l) (drop_more xs at 0 lt);
    }

none_escaped : (xs : List ℕ) → length xs ≤ position_or_len needs_escape xs → escape xs ≡ xs
none_escaped xs all =
    let at = position_or_len needs_escape xs in
    escape_run xs ∙ ap (λ l. take at xs ++ escape l) (drop_all at xs all) ∙ append-nil (take at xs) ∙ take_all at xs all

pub first_escape : (xs : List ℕ) (answer : Option ℕ) → answer ≡ position needs_escape xs → IsFirstEscape xs answer
first_escape xs answer is = go (cases_lt (position_or_len needs_escape xs) (length xs))
  where
    go : (position_or_len needs_escape xs < length xs) ⊎ (length xs ≤ position_or_len needs_escape xs) → IsFirstEscape xs answer
    go (inl lt) = rw (is, lt-ltb _ _ lt) (escaped_at xs lt)
    go (inr all) = rw (is, le-ltb _ _ all) (none_escaped xs all)

-- ---- escapes turned back

-- the escape of a byte is turned back into that byte, whatever follows
abbrev Returns : ℕ → Type 0
Returns x = (rest : List ℕ) → unescape_from 0 (escape_byte x ++ rest) ≡ x ∷ unescape_from 0 rest

-- P holds below n
abbrev pub Each : (ℕ → Type 0) → ℕ → Type 0
Each P zero = Unit {0}
Each P (suc n) = P n × Each P n

pub each_at : (P : ℕ → Type 0) (n : ℕ) → Each P n → (x : ℕ) → x < n → P x
each_at P zero each x lt = absurd (omega arith)
each_at P (suc n) each x lt = go (each_at P n each.1 x) (cases_eq x n)
  where
    go : (x < n → P x) → (x ≡ n) ⊎ (x ≡ n → ⊥) → P x
    go below (inl e) = subst P (sym e) each.0
    go below (inr ne) = below (omega arith)

controls : Each Returns 32
unfolding escape_byte hex_escape escaped_first unescape_from
controls = (λ rest. refl, (λ rest. refl, (λ rest. refl, (λ rest. refl, (λ rest. refl, (λ rest. refl, (λ rest. refl, (λ rest. refl, (λ rest. refl, (λ rest. refl, (λ rest. refl, (λ rest. refl, (λ rest. refl, (λ rest. refl, (λ rest. refl, (λ rest. refl, (λ rest. refl, (λ rest. refl, (λ rest. refl, (λ rest. refl, (λ rest. refl, (λ rest. refl, (λ rest. refl, (λ rest. refl, (λ rest. refl, (λ rest. refl, (λ rest. refl, (λ rest. refl, (λ rest. refl, (λ rest. refl, (λ rest. refl, (λ rest. refl, tt))))))))))))))))))))))))))))))))

quote_returns : Returns 0x22
unfolding escape_byte hex_escape escaped_first unescape_from
quote_returns = λ rest. refl

backslash_returns : Returns 0x5C
unfolding escape_byte hex_escape escaped_first unescape_from
backslash_returns = λ rest. refl

-- every escape begins with a backslash
no_escape_first : (x : ℕ) (rest : List ℕ) → (0x5C == x) ≡ false → escaped_first (x ∷ rest) ≡ None
unfolding escape_byte hex_escape escaped_first
no_escape_first x rest ne = rw ne refl

plain_returns : (x : ℕ) → needs_escape x ≡ false → Returns x
unfolding unescape_from
plain_returns x plain =
    let outer = or_parts (nat_lt x 0x20 || (x == 0x22)) (x == 0x5C) plain in
    λ rest.
    ap (λ l. unescape_from 0 (l ++ rest)) (escape_byte_plain x plain)
    ∙ ap (λ o. unescape_first o x (λ passed. unescape_from passed rest)) (no_escape_first x rest (ne_eqb 0x5C x (λ e. eqb-false x 0x5C outer.1 (sym e))))

returns : (x : ℕ) → Returns x
returns x = go (cases_eq x 0x22) (cases_eq x 0x5C) (cases_lt x 0x20)
  where
    go : (x ≡ 0x22) ⊎ (x ≡ 0x22 → ⊥) → (x ≡ 0x5C) ⊎ (x ≡ 0x5C → ⊥) → (x < 0x20) ⊎ (0x20 ≤ x) → Returns x
    go (inl is) b c = subst Returns (sym is) quote_returns
    go (inr quote) (inl is) c = subst Returns (sym is) backslash_returns
    go (inr quote) (inr back) (inl low) = each_at Returns 32 controls x low
    go (inr quote) (inr back) (inr high) = plain_returns x (rw (le-ltb x 0x20 high, ne_eqb x 0x22 quote, ne_eqb x 0x5C back) refl)

pub comes_back : (text : List ℕ) → ComesBack text
unfolding unescape_from
comes_back [] = refl
comes_back (x ∷ xs) = returns x (escape xs) ∙ ap (λ l. x ∷ l) (comes_back xs)

-- The kind of a finding is what stands before the last LF of its class.
use Rattle.std.proofs.Common.{◌≡◌, ◌⊎◌, ℕ, zero, suc, ◌+◌, ◌-◌, ◌<◌, ◌≤◌, ◌==◌, ◌||◌, not, Bool, true, false, cond, if◌then◌else◌, filter, List, [], ◌∷◌, ◌++◌, length, take, drop, slice_index, nat_lt, Option, Some, None, unwrap_or, length-drop, refl, sym, ap, ◌∙◌, arith, subst, inl, inr, append_assoc, length-append}
use Rattle.std.specs.Str.{IsUtf8, IsValidUpTo, is_utf8}
use Rattle.std.specs.Str.Lossy.{after_first_chunk, error_len_after_one, error_len_after_two, error_len_of_some, replacement_bytes, second_byte_max, second_byte_min, utf8_error_len, utf8_invalid_len, utf8_lossy, utf8_valid_len}
use Rattle.std.specs.Int.{is_in_range}
use Rattle.std.proofs.lemmas.Bool.{cases_lt, eqb-true, false≢true, or_right}
use Rattle.std.proofs.lemmas.List.{take_all}
use Rattle.std.proofs.lemmas.Str.{IsUtf8-append, IsUtf8-encode, IsUtf8-from_is_utf8, IsUtf8-nil, IsUtf8-past_char, is_utf8-from_IsUtf8, utf8_lossy-IsUtf8, utf8_lossy_empty, utf8_lossy_step, utf8_valid_len-IsValidUpTo, utf8_valid_len_le}
use Rattle.std.proofs.Math.Seq.{drop-append-add, take-append-add}
use lib.Utf8.{encode, encodes}
use Rattle.finding_filters.specs.Finding.{FindingParts}
use Rattle.finding_filters.specs.Texts.{is_space, kind_text, line_of, plain_message, row_class}
use Rattle.finding_laws.specs.Baselines.Entries.{before_last_lf, has_lf}

-- ---- the longest front that is text

-- the longest front up to a length that is text
record Front (bs : List ℕ) (m : ℕ) : Type 0 where
  len : ℕ
  within : len ≤ m
  text : IsUtf8 (take len bs)
  longest : (k : ℕ) → len < k → k ≤ m → ¬ (IsUtf8 (take k bs))

not_longer : (bs : List ℕ) (m : ℕ) (it : Front bs m) (k : ℕ) → is_utf8 (take (suc m) bs) ≡ false → it.len < k → k ≤ suc m → (k < suc m) ⊎ (suc m ≤ k) → IsUtf8 (take k bs) → ⊥
not_longer bs m it k is p q (inl below) u = it.longest k p (omega arith) u
not_longer bs m it k is p q (inr above) u =
    let same : k ≡ suc m = omega arith in
    false≢true (sym is ∙ is_utf8-from_IsUtf8 (take (suc m) bs) (subst (λ n. IsUtf8 (take n bs)) same u))

one_longer : (bs : List ℕ) (m : ℕ) (it : Front bs m) (said : Bool) → is_utf8 (take (suc m) bs) ≡ said → Front bs (suc m)
one_longer bs m it true is = record { len = suc m; within = omega arith; text = IsUtf8-from_is_utf8 (take (suc m) bs) is; longest = λ k p q. absurd (omega arith) }
one_longer bs m it false is = record {
  len = it.len;
  within = omega (arith, it.within);
  text = it.text;
  longest = λ k p q u. not_longer bs m it k is p q (cases_lt k (suc m)) u;
}

front_in : (bs : List ℕ) (m : ℕ) → Front bs m
front_in bs zero = record { len = 0; within = omega arith; text = IsUtf8-nil; longest = λ k p q. absurd (omega arith) }
front_in bs (suc m) = one_longer bs m (front_in bs m) (is_utf8 (take (suc m) bs)) refl

-- bytes are text, or the front is that stops being it
text_or_front : (bs : List ℕ) → IsUtf8 bs ⊎ IsValidUpTo bs (utf8_valid_len bs)
text_or_front bs = go (front_in bs (length bs)) (cases_lt (front_in bs (length bs)).len (length bs))
  where
    go : (it : Front bs (length bs)) → (it.len < length bs) ⊎ (length bs ≤ it.len) → IsUtf8 bs ⊎ IsValidUpTo bs (utf8_valid_len bs)
    go it (inr all) = inl (subst IsUtf8 (take_all it.len bs all) it.text)
    go it (inl short) =
        let valid : IsValidUpTo bs it.len = record { short = short; front = it.text; longest = λ m p u. past m p u (cases_lt m (length bs)) } in
        inr (subst (IsValidUpTo bs) (sym (utf8_valid_len-IsValidUpTo bs it.len valid)) valid)
      where
        past : (m : ℕ) → it.len < m → IsUtf8 (take m bs) → (m < length bs) ⊎ (length bs ≤ m) → ⊥
        past m p u (inl below) = it.longest m p (omega arith) u
        past m p u (inr above) = it.longest (length bs) short (omega arith) (subst IsUtf8 (take_all m bs above ∙ sym (take_all (length bs) bs (omega arith))) u)

-- ---- what stands behind the first fault is shorter

either : (P : Option ℕ → Type 0) (said : Bool) (this that : Option ℕ) → P this → P that → P (cond said this that)
either P true this that is other = is
either P false this that is other = other

-- a fault has a byte, where there is one
fault_some : (bs : List ℕ) → 0 < length bs → 0 < utf8_invalid_len bs
unfolding utf8_error_len
fault_some bs some =
    let P : Option ℕ → Type 0 = λ o. 0 < unwrap_or o (length bs) in
    let one : P (Some 1) = omega arith in
    let two : P (Some 2) = omega arith in
    let three : P (Some 3) = omega arith in
    let x = slice_index bs 0 in
    let third = is_in_range 0x80 0xBF (slice_index bs 2) in
    let second = is_in_range (second_byte_min x) (second_byte_max x) (slice_index bs 1) in
    let after_three : P (cond (nat_lt (length bs) 4) None (Some 3)) = either P (nat_lt (length bs) 4) None (Some 3) some three in
    let after_two : P (error_len_after_two bs) =
    either P (nat_lt (length bs) 3) None (cond third (cond (nat_lt (length bs) 4) None (Some 3)) (Some 2)) some
    (either P third (cond (nat_lt (length bs) 4) None (Some 3)) (Some 2) after_three two) in
    let after_one : P (error_len_after_one bs) =
    either P (nat_lt (length bs) 2) None (cond second (error_len_after_two bs) (Some 1)) some (either P second (error_len_after_two bs) (Some 1) after_two one) in
    either P (length bs == 0) None (error_len_of_some bs) some (either P (is_in_range 0xC2 0xF4 x) (error_len_after_one bs) (Some 1) after_one one)

behind_shorter : (bs : List ℕ) → ¬ (utf8_valid_len bs ≡ length bs) → length (after_first_chunk bs) < length bs
behind_shorter bs faulty =
    let n = utf8_valid_len bs in
    let within = utf8_valid_len_le bs in
    let fault = fault_some (drop n bs) (omega (arith, length-drop n bs)) in
    omega (arith, length-drop (n + utf8_invalid_len (drop n bs)) bs)

-- ---- what `utf8_lossy` gives is text

IsUtf8-replacement : IsUtf8 replacement_bytes
unfolding encode
IsUtf8-replacement = IsUtf8-encode 0xFFFD refl

lossy_next : (bs : List ℕ) → (length (after_first_chunk bs) < length bs → IsUtf8 (utf8_lossy (after_first_chunk bs))) → IsUtf8 bs ⊎ IsValidUpTo bs (utf8_valid_len bs) → IsUtf8 (utf8_lossy bs)
lossy_next bs next (inl text) = subst IsUtf8 (sym (utf8_lossy-IsUtf8 bs text)) text
lossy_next bs next (inr valid) =
    let faulty : ¬ (utf8_valid_len bs ≡ length bs) = λ e. omega (arith, valid.short, e) in
    subst IsUtf8 (sym (utf8_lossy_step bs faulty))
    (IsUtf8-append (take (utf8_valid_len bs) bs) (replacement_bytes ++ utf8_lossy (after_first_chunk bs)) valid.front
    (IsUtf8-append replacement_bytes (utf8_lossy (after_first_chunk bs)) IsUtf8-replacement (next (behind_shorter bs faulty))))

lossy_text_in : (k : ℕ) (bs : List ℕ) → length bs ≤ k → IsUtf8 (utf8_lossy bs)
lossy_text_in zero bs within = subst IsUtf8 (sym (utf8_lossy_empty bs (omega arith))) IsUtf8-nil
lossy_text_in (suc k) bs within = lossy_next bs (λ less. lossy_text_in k (after_first_chunk bs) (omega arith)) (text_or_front bs)

lossy_text : (bs : List ℕ) → IsUtf8 (utf8_lossy bs)
lossy_text bs = lossy_text_in (length bs) bs (omega arith)

-- ---- text before other bytes stays as it is

rest_encoded : (cs v : List ℕ) → IsUtf8 (encodes cs ++ v) → IsUtf8 v
rest_encoded [] v u = u
rest_encoded (c ∷ cs) v u = rest_encoded cs v (IsUtf8-past_char (encodes (c ∷ cs) ++ v) (encodes cs ++ v) c u (append_assoc (encode c) (encodes cs) v))

rest_text : (u v : List ℕ) → IsUtf8 u → IsUtf8 (u ++ v) → IsUtf8 v
rest_text u v text all = rest_encoded text.0 v (subst (λ (front : List ℕ). IsUtf8 (front ++ v)) (sym text.1.1) all)

module _ (u w : List ℕ) (text : IsUtf8 u) (valid : IsValidUpTo w (utf8_valid_len w)) where
  abbrev kept_len : ℕ
  kept_len = length u + utf8_valid_len w

  no_longer : (m : ℕ) → kept_len < m → ¬ (IsUtf8 (take m (u ++ w)))
  no_longer m p all =
      let same : m ≡ length u + (m - length u) = omega arith in
      valid.longest (m - length u) (omega arith)
      (rest_text u (take (m - length u) w) text (subst IsUtf8 (ap (λ n. take n (u ++ w)) same ∙ take-append-add u w (m - length u)) all))

  valid_all : IsValidUpTo (u ++ w) kept_len
  valid_all = record {
    short = omega (arith, length-append u w, valid.short);
    front = subst IsUtf8 (sym (take-append-add u w (utf8_valid_len w))) (IsUtf8-append u (take (utf8_valid_len w) w) text valid.front);
    longest = no_longer;
  }

  valid_len : utf8_valid_len (u ++ w) ≡ kept_len
  valid_len = utf8_valid_len-IsValidUpTo (u ++ w) kept_len valid_all

  chunk_same : after_first_chunk (u ++ w) ≡ after_first_chunk w
  chunk_same =
      ap (λ n. drop (n + utf8_invalid_len (drop n (u ++ w))) (u ++ w)) valid_len
      ∙ ap (λ (those : List ℕ). drop (kept_len + utf8_invalid_len those) (u ++ w)) (drop-append-add u w (utf8_valid_len w))
      ∙ ap (λ n. drop n (u ++ w)) (moved (utf8_valid_len w) (utf8_invalid_len (drop (utf8_valid_len w) w)))
      ∙ drop-append-add u w (utf8_valid_len w + utf8_invalid_len (drop (utf8_valid_len w) w))
    where
      moved : (a b : ℕ) → (length u + a) + b ≡ length u + (a + b)
      moved a b = omega arith

  faulty_all : ¬ (utf8_valid_len (u ++ w) ≡ length (u ++ w))
  faulty_all same = omega (arith, valid_all.short, same, valid_len)

  faulty : ¬ (utf8_valid_len w ≡ length w)
  faulty same = omega (arith, valid.short, same)

  lossy_kept : utf8_lossy (u ++ w) ≡ u ++ utf8_lossy w
  lossy_kept =
      utf8_lossy_step (u ++ w) faulty_all
      ∙ ap (λ n. take n (u ++ w) ++ (replacement_bytes ++ utf8_lossy (after_first_chunk (u ++ w)))) valid_len
      ∙ ap (λ (those : List ℕ). those ++ (replacement_bytes ++ utf8_lossy (after_first_chunk (u ++ w)))) (take-append-add u w (utf8_valid_len w))
      ∙ ap (λ (those : List ℕ). (u ++ take (utf8_valid_len w) w) ++ (replacement_bytes ++ utf8_lossy those)) chunk_same
      ∙ append_assoc u (take (utf8_valid_len w) w) (replacement_bytes ++ utf8_lossy (after_first_chunk w))
      ∙ ap (λ (those : List ℕ). u ++ those) (sym (utf8_lossy_step w faulty))

lossy_behind : (u w : List ℕ) → IsUtf8 u → utf8_lossy (u ++ w) ≡ u ++ utf8_lossy w
lossy_behind u w text = go (text_or_front w)
  where
    go : IsUtf8 w ⊎ IsValidUpTo w (utf8_valid_len w) → utf8_lossy (u ++ w) ≡ u ++ utf8_lossy w
    go (inl other) = utf8_lossy-IsUtf8 (u ++ w) (IsUtf8-append u w text other) ∙ ap (λ (those : List ℕ). u ++ those) (sym (utf8_lossy-IsUtf8 w other))
    go (inr valid) = lossy_kept u w text valid

-- ---- no LF

no_lf_append : (xs ys : List ℕ) → has_lf xs ≡ false → has_lf ys ≡ false → has_lf (xs ++ ys) ≡ false
no_lf_append [] ys none others = others
no_lf_append (x ∷ xs) ys none others = go (x == 0x0A) refl (λ later. no_lf_append xs ys later others)
  where
    go : (here : Bool) → (x == 0x0A) ≡ here → (has_lf xs ≡ false → has_lf (xs ++ ys) ≡ false) → (here || has_lf (xs ++ ys)) ≡ false
    go true is next = absurd (false≢true (sym none ∙ ap (λ b. b || has_lf xs) is))
    go false is next = next (sym (ap (λ b. b || has_lf xs) is) ∙ none)

later_lf : (x : ℕ) (xs : List ℕ) → has_lf (x ∷ xs) ≡ false → has_lf xs ≡ false
later_lf x xs none = go (x == 0x0A) none
  where
    go : (here : Bool) → (here || has_lf xs) ≡ false → has_lf xs ≡ false
    go true is = absurd (false≢true (sym is))
    go false is = is

first_lf : (x : ℕ) (xs : List ℕ) → has_lf (x ∷ xs) ≡ false → (x == 0x0A) ≡ false
first_lf x xs none = go (x == 0x0A) none
  where
    go : (here : Bool) → (here || has_lf xs) ≡ false → here ≡ false
    go true is = is
    go false is = refl

with_no_lf : (x : ℕ) (xs : List ℕ) → (x == 0x0A) ≡ false → has_lf xs ≡ false → has_lf (x ∷ xs) ≡ false
with_no_lf x xs here later = ap (λ b. b || has_lf xs) here ∙ later

no_lf_take : (n : ℕ) (xs : List ℕ) → has_lf xs ≡ false → has_lf (take n xs) ≡ false
no_lf_take zero xs none = refl
no_lf_take (suc n) [] none = refl
no_lf_take (suc n) (x ∷ xs) none = with_no_lf x (take n xs) (first_lf x xs none) (no_lf_take n xs (later_lf x xs none))

no_lf_drop : (n : ℕ) (xs : List ℕ) → has_lf xs ≡ false → has_lf (drop n xs) ≡ false
no_lf_drop zero xs none = none
no_lf_drop (suc n) [] none = refl
no_lf_drop (suc n) (x ∷ xs) none = no_lf_drop n xs (later_lf x xs none)

no_lf_next : (bs : List ℕ) → has_lf bs ≡ false → (length (after_first_chunk bs) < length bs → has_lf (utf8_lossy (after_first_chunk bs)) ≡ false)
    → IsUtf8 bs ⊎ IsValidUpTo bs (utf8_valid_len bs) → has_lf (utf8_lossy bs) ≡ false
no_lf_next bs none next (inl text) = ap has_lf (utf8_lossy-IsUtf8 bs text) ∙ none
no_lf_next bs none next (inr valid) =
    let faulty : ¬ (utf8_valid_len bs ≡ length bs) = λ e. omega (arith, valid.short, e) in
    let n = utf8_valid_len bs in
    ap has_lf (utf8_lossy_step bs faulty)
    ∙ no_lf_append (take n bs) (replacement_bytes ++ utf8_lossy (after_first_chunk bs)) (no_lf_take n bs none)
    (no_lf_append replacement_bytes (utf8_lossy (after_first_chunk bs)) refl (next (behind_shorter bs faulty)))

no_lf_lossy_in : (k : ℕ) (bs : List ℕ) → length bs ≤ k → has_lf bs ≡ false → has_lf (utf8_lossy bs) ≡ false
no_lf_lossy_in zero bs within none = ap has_lf (utf8_lossy_empty bs (omega arith))
no_lf_lossy_in (suc k) bs within none =
    no_lf_next bs none (λ less. no_lf_lossy_in k (after_first_chunk bs) (omega arith) (no_lf_drop (utf8_valid_len bs + utf8_invalid_len (drop (utf8_valid_len bs) bs)) bs none))
    (text_or_front bs)

lf_is_space : (x : ℕ) → (x == 0x0A) ≡ true → is_space x ≡ true
lf_is_space x is = ap is_space (eqb-true x 0x0A is)

abbrev dense : List ℕ → List ℕ
dense row = filter (λ byte. not (is_space byte)) row

lf_test : (x : ℕ) (here : Bool) → is_space x ≡ false → (x == 0x0A) ≡ here → here ≡ false
lf_test x true is said = absurd (false≢true (sym is ∙ lf_is_space x said))
lf_test x false is said = refl

no_lf_one : (x : ℕ) (rest : List ℕ) (space : Bool) → is_space x ≡ space → has_lf rest ≡ false → has_lf (cond (not space) (x ∷ rest) rest) ≡ false
no_lf_one x rest true is none = none
no_lf_one x rest false is none = with_no_lf x rest (lf_test x (x == 0x0A) is refl) none

no_lf_dense : (row : List ℕ) → has_lf (dense row) ≡ false
no_lf_dense [] = refl
no_lf_dense (x ∷ row) = no_lf_one x (dense row) (is_space x) refl (no_lf_dense row)

-- ---- what stands before the last LF

has_this_lf : (k d : List ℕ) → has_lf (k ++ 0x0A ∷ d) ≡ true
has_this_lf [] d = refl
has_this_lf (x ∷ k) d = or_right (x == 0x0A) (has_lf (k ++ 0x0A ∷ d)) (has_this_lf k d)

front_is : (k d : List ℕ) → has_lf d ≡ false → before_last_lf (k ++ 0x0A ∷ d) ≡ k
front_is [] d none = ap (λ b. if b then 0x0A ∷ before_last_lf d else []) none
front_is (x ∷ k) d none =
    ap (λ b. if b then x ∷ before_last_lf (k ++ 0x0A ∷ d) else []) (has_this_lf k d) ∙ ap (λ (those : List ℕ). x ∷ those) (front_is k d none)

-- ---- kinds and classes

kind_is_text : (it : FindingParts) → IsUtf8 (kind_text it)
unfolding kind_text
kind_is_text it = lossy_text (line_of it.file ++ line_of it.scope ++ line_of it.code ++ plain_message it.message)

IsUtf8-lf : IsUtf8 (0x0A ∷ [])
unfolding encode
IsUtf8-lf = IsUtf8-encode 0x0A refl

pub row_tells : (it : FindingParts) (row : List ℕ) → before_last_lf (row_class (kind_text it) row) ≡ kind_text it
unfolding row_class
row_tells it row =
    let kind = kind_text it in
    ap (λ (those : List ℕ). before_last_lf (utf8_lossy those)) (sym (append_assoc kind (0x0A ∷ []) (dense row)))
    ∙ ap before_last_lf (lossy_behind (kind ++ 0x0A ∷ []) (dense row) (IsUtf8-append kind (0x0A ∷ []) (kind_is_text it) IsUtf8-lf))
    ∙ ap before_last_lf (append_assoc kind (0x0A ∷ []) (utf8_lossy (dense row)))
    ∙ front_is kind (utf8_lossy (dense row)) (no_lf_lossy_in (length (dense row)) (dense row) (omega arith) (no_lf_dense row))

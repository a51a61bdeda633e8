-- A path up to its extension, one byte at a time.
use Rattle.std.proofs.Common.{◌≡◌, ℕ, suc, ◌+◌, ◌-◌, ◌<◌, ◌≤◌, Bool, true, false, not, ◌==◌, if◌then◌else◌, List, [], ◌∷◌, ◌++◌, append_assoc, append-nil, length, take, drop, get_or, sym, ap, ◌∙◌, subst, inl, inr, ◌⊎◌, arith, drop-cons}
use Rattle.std.specs.Str.{IsCharBoundary}
use Rattle.std.proofs.lemmas.Bool.{cases_lt}
use Rattle.std.proofs.lemmas.Str.{IsCharBoundary-before_ascii, IsCharBoundary-end}
use Rattle.std.proofs.lemmas.List.{length-drop, take_more, take_all, drop_all}
use Rattle.ci_formats.specs.Junit.{ends_stem, stem_from, stem}

-- what has been passed and what is left make the stem
abbrev pub IsStem : List ℕ → ℕ → Bool → Type 0
IsStem path i named = take i path ++ stem_from named (drop i path) ≡ stem path

here : (path : List ℕ) (i : ℕ) (named : Bool) → i < length path
    → stem_from named (drop i path) ≡ (if ends_stem (get_or path i 0) named (drop (i + 1) path) then [] else get_or path i 0 ∷ stem_from (not (get_or path i 0 == 0x2F)) (drop (i + 1) path))
unfolding stem_from
here path i named within =
    let next : suc i ≡ i + 1 = omega arith in
    ap (stem_from named) (drop-cons path i 0 within ∙ ap (λ n. get_or path i 0 ∷ drop n path) next)

pub behind : (path : List ℕ) (i : ℕ) → take (length path - (i + 1)) (drop (i + 1) path) ≡ drop (i + 1) path
behind path i = take_all (length path - (i + 1)) (drop (i + 1) path) (omega (arith, length-drop (i + 1) path))

pub stem_stops : (path : List ℕ) (i : ℕ) (named : Bool) → i < length path → ends_stem (get_or path i 0) named (drop (i + 1) path) ≡ true → IsStem path i named → take i path ≡ stem path
stem_stops path i named within ends so_far =
    let none : stem_from named (drop i path) ≡ [] =
    here path i named within ∙ ap (λ b. if b then [] else get_or path i 0 ∷ stem_from (not (get_or path i 0 == 0x2F)) (drop (i + 1) path)) ends in
    sym (append-nil (take i path)) ∙ ap (λ l. take i path ++ l) (sym none) ∙ so_far

pub stem_goes : (path : List ℕ) (i : ℕ) (named : Bool) → i < length path → ends_stem (get_or path i 0) named (drop (i + 1) path) ≡ false → IsStem path i named → IsStem path (i + 1) (not (get_or path i 0 == 0x2F))
stem_goes path i named within goes so_far =
    let x = get_or path i 0 in
    let rest = stem_from (not (x == 0x2F)) (drop (i + 1) path) in
    let more : stem_from named (drop i path) ≡ x ∷ rest = here path i named within ∙ ap (λ b. if b then [] else x ∷ rest) goes in
    ap (λ l. l ++ rest) (take_more path i 0 within) ∙ append_assoc (take i path) (x ∷ []) rest ∙ ap (λ l. take i path ++ l) (sym more) ∙ so_far

pub stem_whole : (path : List ℕ) (i : ℕ) (named : Bool) → length path ≤ i → IsStem path i named → take (length path) path ≡ stem path
unfolding stem_from
stem_whole path i named past so_far =
    take_all (length path) path (omega arith) ∙ sym (take_all i path past) ∙ sym (append-nil (take i path))
    ∙ ap (λ l. take i path ++ stem_from named l) (sym (drop_all i path past)) ∙ so_far

-- a dot is a character of its own
pub boundary : (path : List ℕ) (n : ℕ) → n ≤ length path → (n < length path → get_or path n 0 ≡ 0x2E) → IsCharBoundary path n
boundary path n most dot = go (cases_lt n (length path))
  where
    go : (n < length path) ⊎ (length path ≤ n) → IsCharBoundary path n
    go (inl lt) = IsCharBoundary-before_ascii path n lt (omega (arith, dot lt))
    go (inr past) = let whole : length path ≡ n = omega (arith, most, past) in subst (IsCharBoundary path) whole (IsCharBoundary-end path)

-- Rows in order.
use Rattle.std.proofs.Common.{◌≡◌, ℕ, zero, suc, ◌+◌, ◌-◌, cond, Option, Some, None, slice_get, ◌<◌, ◌≤◌, Bool, true, false, ◌&&◌, ◌||◌, ◌==◌, nat_lt, nat_le, List, [], ◌∷◌, length, get_or, refl, sym, ap, ◌∙◌, arith, inl, inr, ◌⊎◌}
use Rattle.std.specs.List.{AllWithin, list_any}
use Rattle.std.specs.List.Sorted.{IsSorted}
use Rattle.std.specs.Ordering.{is_lt, nat_cmp, ordering_then}
use Rattle.std.specs.declared.cmp.Ordering.TheVariants.{Less, Equal, Greater}
use Rattle.std.proofs.lemmas.Bool.{cases_lt, false≢true, or_from}
use Rattle.std.proofs.lemmas.Bool.Decides.{nat_tests}
use Rattle.std.proofs.lemmas.List.Folds.{list_any_at}
use Rattle.changed_rows.specs.Changes.{IsOrdered, comes_before, has_row, is_row_to, is_within}
use Rattle.changed_rows.specs.declared.reader.FileRow.{FileRow}

none_any : (p : FileRow → Bool) (xs : List FileRow) → ((k : ℕ) (d : FileRow) → k < length xs → p (get_or xs k d) ≡ false) → list_any p xs ≡ false
none_any p [] none = refl
none_any p (x ∷ xs) none = or_from (p x) (list_any p xs) (none 0 x (omega arith)) (none_any p xs (λ k d within. none (suc k) d (omega arith)))

-- a row before the first isn't one of the rows
early : (file first last f r : ℕ) → (nat_lt f file || (f == file && nat_lt r first)) ≡ true → (f == file && (nat_le first r && nat_le r last)) ≡ false
early file first last f r is = grind (arith, nat_tests)

-- one of the rows comes before the one after the last
within_to : (file first last f r : ℕ) → (f == file && (nat_le first r && nat_le r last)) ≡ true → (nat_lt f file || (f == file && nat_lt r (last + 1))) ≡ true
within_to file first last f r is = grind (arith, nat_tests)

-- a row that comes neither before the first nor after the last is one of them
between : (file first last f r : ℕ) → (nat_lt f file || (f == file && nat_lt r first)) ≡ false → (nat_lt f file || (f == file && nat_lt r (last + 1))) ≡ true
    → (f == file && nat_le r last) ≡ true
between file first last f r low high = grind (arith, nat_tests)

late_in : (file first last f r : ℕ) → (nat_lt f file || (f == file && nat_lt r first)) ≡ false → (f == file && nat_le r last) ≡ true
    → (f == file && (nat_le first r && nat_le r last)) ≡ true
late_in file first last f r low is = grind (arith, nat_tests)

abbrev IsSplit : List FileRow → ℕ → ℕ → ℕ → Type 0
IsSplit rows file first start = AllWithin (λ it. comes_before file first it ≡ true) rows 0 start × AllWithin (λ it. comes_before file first it ≡ false) rows start (length rows)

get_or_same : (rows : List FileRow) (k : ℕ) (d e : FileRow) → k < length rows → get_or rows k d ≡ get_or rows k e
get_or_same [] k d e within = absurd (omega arith)
get_or_same (x ∷ rows) zero d e within = refl
get_or_same (x ∷ rows) (suc k) d e within = get_or_same rows k d e (omega arith)

-- there is no row of those if the first that doesn't come before is past the last
pub none_past : (rows : List FileRow) (file first last start : ℕ) → IsSplit rows file first start → length rows ≤ start → has_row rows file first last ≡ false
none_past rows file first last start parts all =
    none_any (is_within file first last) rows (λ k d within. early file first last (get_or rows k d).file (get_or rows k d).row (parts.0 k d (omega arith) (omega arith)))

-- the first that doesn't come before tells whether there is one
pub told_by_first : (rows : List FileRow) (file first last start : ℕ) (it : FileRow) → IsOrdered rows → IsSplit rows file first start → start < length rows
    → it ≡ get_or rows start it → has_row rows file first last ≡ (it.file == file && nat_le it.row last)
told_by_first rows file first last start it ordered parts within is = go (it.file == file && nat_le it.row last) refl
  where
    low : comes_before file first it ≡ false
    low = ap (comes_before file first) is ∙ parts.1 start it (omega arith) within

    each : (it.file == file && nat_le it.row last) ≡ false → (k : ℕ) (d : FileRow) → k < length rows → is_within file first last (get_or rows k d) ≡ false
    each out k d inside = at (cases_lt k start)
      where
        test : (said : Bool) → is_within file first last (get_or rows k d) ≡ said → start ≤ k → is_within file first last (get_or rows k d) ≡ false
        test false said after = said
        test true said after =
            let high : comes_before file (last + 1) (get_or rows k d) ≡ true = within_to file first last (get_or rows k d).file (get_or rows k d).row said in
            let here : comes_before file (last + 1) (get_or rows start d) ≡ true = ordered file (last + 1) start k d after inside high in
            let low_here : comes_before file first (get_or rows start d) ≡ false = parts.1 start d (omega arith) within in
            let same : get_or rows start d ≡ it = get_or_same rows start d it within ∙ sym is in
            absurd (false≢true (sym out ∙ between file first last it.file it.row low (ap (comes_before file (last + 1)) (sym same) ∙ here)))

        at : (k < start) ⊎ (start ≤ k) → is_within file first last (get_or rows k d) ≡ false
        at (inl before) = early file first last (get_or rows k d).file (get_or rows k d).row (parts.0 k d (omega arith) before)
        at (inr after) = test (is_within file first last (get_or rows k d)) refl after

    go : (said : Bool) → (it.file == file && nat_le it.row last) ≡ said → has_row rows file first last ≡ said
    go true said =
        list_any_at (is_within file first last) rows start it within (ap (is_within file first last) (sym is) ∙ late_in file first last it.file it.row low said)
    go false said = none_any (is_within file first last) rows (each said)

got : (rows : List FileRow) (k : ℕ) (it : FileRow) → slice_get rows k ≡ Some it → (k < length rows) × (it ≡ get_or rows k it)
got [] k it is = cc
got (x ∷ rows) zero it is = (omega arith, sym cc)
got (x ∷ rows) (suc k) it is = let more = got rows k it is in (omega (arith, more.0), more.1)

past : (rows : List FileRow) (k : ℕ) → slice_get rows k ≡ None → length rows ≤ k
past [] k is = omega arith
past (x ∷ rows) zero is = cc
past (x ∷ rows) (suc k) is = omega (arith, past rows k is)

pub told : (rows : List FileRow) (file first last start : ℕ) → IsOrdered rows → IsSplit rows file first start
    → is_row_to (slice_get rows start) file last ≡ has_row rows file first last
told rows file first last start ordered parts = go (slice_get rows start) refl
  where
    go : (o : Option FileRow) → slice_get rows start ≡ o → is_row_to o file last ≡ has_row rows file first last
    go None is = sym (none_past rows file first last start parts (past rows start is))
    go (Some it) is = let at = got rows start it is in sym (told_by_first rows file first last start it ordered parts at.0 at.1)

-- ---- rows that are sorted

lexical : (a b : FileRow) → is_lt (ordering_then (nat_cmp a.file b.file) (nat_cmp a.row b.row)) ≡ (nat_lt a.file b.file || (a.file == b.file && nat_lt a.row b.row))
lexical a b = lexical_at a.file b.file a.row b.row
  where
    lexical_at : (f g r s : ℕ) → is_lt (ordering_then (nat_cmp f g) (nat_cmp r s)) ≡ (nat_lt f g || (f == g && nat_lt r s))
    lexical_at f g r s = go (nat_lt f g) (f == g) (nat_lt r s) (r == s)
      where
        go : (x y z w : Bool) → is_lt (ordering_then (cond x Less (cond y Equal Greater)) (cond z Less (cond w Equal Greater))) ≡ (x || (y && z))
        go true y z w = refl
        go false false z w = refl
        go false true true w = refl
        go false true false true = refl
        go false true false false = refl

next_before : (file row f g r s : ℕ) → (nat_lt g f || (g == f && nat_lt s r)) ≡ false → (nat_lt g file || (g == file && nat_lt s row)) ≡ true
    → (nat_lt f file || (f == file && nat_lt r row)) ≡ true
next_before file row f g r s order is = grind (arith, nat_tests)

pub sorted_ordered : (rows : List FileRow) → IsSorted (λ (a b : FileRow). ordering_then (nat_cmp a.file b.file) (nat_cmp a.row b.row)) rows → IsOrdered rows
sorted_ordered rows sorted = λ file row i j d before within is. down file row (j - i) i d (omega arith) (ap (λ n. comes_before file row (get_or rows n d)) (omega arith) ∙ is)
  where
    down : (file row n i : ℕ) (d : FileRow) → i + n < length rows → comes_before file row (get_or rows (i + n) d) ≡ true → comes_before file row (get_or rows i d) ≡ true
    down file row zero i d within is = ap (λ n. comes_before file row (get_or rows n d)) (omega arith) ∙ is
    down file row (suc n) i d within is =
        let next : comes_before file row (get_or rows (i + 1) d) ≡ true = down file row n (i + 1) d (omega arith) (ap (λ n. comes_before file row (get_or rows n d)) (omega arith) ∙ is) in
        let order : (nat_lt (get_or rows (i + 1) d).file (get_or rows i d).file || ((get_or rows (i + 1) d).file == (get_or rows i d).file && nat_lt (get_or rows (i + 1) d).row (get_or rows i d).row)) ≡ false =
        sym (lexical (get_or rows (i + 1) d) (get_or rows i d)) ∙ sorted i d (omega arith) (omega arith) in
        next_before file row (get_or rows i d).file (get_or rows (i + 1) d).file (get_or rows i d).row (get_or rows (i + 1) d).row order next

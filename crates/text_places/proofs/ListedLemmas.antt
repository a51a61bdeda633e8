-- Listed row ends, and what is reached from a place on.
use Rattle.std.proofs.Common.{◌≡◌, ⊎_elim, ℕ, ◌+◌, ◌-◌, ◌<◌, ◌≤◌, ◌++◌, true, false, cond, leb, suc, zero, List, [], ◌∷◌, length, get_or, sym, ap, subst, arith, add-one}
use Rattle.std.specs.List.Sorted.{IsNonDecreasingBy, IsPartitionPoint}
use Rattle.std.specs.Str.{IsAscii}
use Rattle.std.proofs.lemmas.Bool.{cases_lt, leb-true, leb-false}
use Rattle.std.proofs.lemmas.List.{length-append, get_or_append_left, get_or_push}
use Rattle.source_location.specs.Breaks.{breaks_of}
use Rattle.source_location.specs.Rows.{row_of}
use Rattle.source_location.proofs.RowsLemmas.{row_le}
use Rattle.text_places.specs.Bytes.{before}
use Rattle.text_places.specs.Ends.{IsRowEnd, AreFirstEnds, AreEnds}
use Rattle.text_places.specs.Pages.{ends_row, IsLastUpTo, IsLastWithin}
use Rattle.text_places.specs.declared.encoding.Encoding.{Encoding}
use Rattle.text_places.proofs.UnitsLemmas.{before-none}
use Rattle.text_places.proofs.EndLemmas.{rows_more}
use Rattle.text_places.proofs.ScanLemmas.{ascii_before}

-- no fewer rows end further on
pub rows-le : (bytes : List ℕ) (i j : ℕ) → i ≤ j → j ≤ length bytes → row_of (breaks_of bytes) i ≤ row_of (breaks_of bytes) j
rows-le bytes i zero le within = omega (arith, ap (row_of (breaks_of bytes)) (let e : i ≡ 0 = omega arith in e))
rows-le bytes i (suc j) le within =
    ⊎_elim
    (λ lt. omega (arith, rows-le bytes i j (omega arith) (omega (arith, within)), rows_more bytes j (omega (arith, within)), ap (row_of (breaks_of bytes)) (add-one j)))
    (λ ge. omega (arith, ap (row_of (breaks_of bytes)) (let e : i ≡ suc j = omega arith in e)))
    (cases_lt i (suc j))

-- a row ends at a place or before it exactly if it is among those that end before the place
pub end-le : (bytes : List ℕ) (row end at : ℕ) → IsRowEnd bytes row end → at ≤ length bytes → row ≤ row_of (breaks_of bytes) at → end ≤ at
end-le bytes row end at is within many =
    ⊎_elim (λ lt. absurd (omega (arith, rows-le bytes at (end - 1) (omega arith) (omega (arith, is.within)), is.low, many))) (λ ge. ge) (cases_lt at end)

pub end-past : (bytes : List ℕ) (row end at : ℕ) → IsRowEnd bytes row end → at ≤ length bytes → at < end → row_of (breaks_of bytes) at < row
end-past bytes row end at is within lt = omega (arith, rows-le bytes at (end - 1) (omega arith) (omega (arith, is.within)), is.low)

pub end-upto : (bytes : List ℕ) (row end at : ℕ) → IsRowEnd bytes row end → at ≤ length bytes → end ≤ at → row ≤ row_of (breaks_of bytes) at
end-upto bytes row end at is within le = omega (arith, rows-le bytes end at le within, is.high)

pub ends_rise : (bytes ends : List ℕ) → AreFirstEnds bytes ends → IsNonDecreasingBy (λ end. end) ends
ends_rise bytes ends each i j d le h =
    end-le bytes (i + 1) (get_or ends i d) (get_or ends j d) (each i d (omega arith)) (each j d h).within (omega (arith, (each j d h).high))

pub counted_ends : (bytes ends : List ℕ) (to k : ℕ) → AreEnds bytes ends → to ≤ length bytes → k ≤ length ends
    → IsPartitionPoint (λ y. leb y to ≡ true) (λ y. leb y to ≡ false) ends k → k ≡ row_of (breaks_of bytes) to
counted_ends bytes ends to k are within bound point =
    let low : k ≤ row_of (breaks_of bytes) to =
    ⊎_elim
    (λ some. omega (arith, end-upto bytes (k - 1 + 1) (get_or ends (k - 1) 0) to (are.each (k - 1) 0 (omega arith)) within (leb-true (get_or ends (k - 1) 0) to (point.0 (k - 1) 0 (omega arith) (omega arith)))))
    (λ none. omega arith)
    (cases_lt 0 k) in
    let high : row_of (breaks_of bytes) to ≤ k =
    ⊎_elim
    (λ lt. omega (arith, end-past bytes (k + 1) (get_or ends k 0) to (are.each k 0 lt) within (leb-false (get_or ends k 0) to (point.1 k 0 (omega arith) lt))))
    (λ ge. omega (arith, row_le (breaks_of bytes) to, are.all, ge))
    (cases_lt k (length ends)) in
    omega (arith, low, high)

-- one row end more
pub ends_more : (bytes ends more : List ℕ) (hit : ℕ) → AreFirstEnds bytes ends → length ends ≡ row_of (breaks_of bytes) hit → hit < length bytes → ends_row bytes hit ≡ true
    → more ≡ ends ++ (hit + 1) ∷ [] → AreFirstEnds bytes more
ends_more bytes ends more hit each counted lt test pushed =
    subst (AreFirstEnds bytes) (sym pushed) (λ k d h.
    ⊎_elim
    (λ old. subst (IsRowEnd bytes (k + 1)) (sym (get_or_append_left ends ((hit + 1) ∷ []) d k old)) (each k d old))
    (λ new.
    let last : k ≡ length ends = omega (arith, new, h, length-append ends ((hit + 1) ∷ [])) in
    let back : hit + 1 - 1 ≡ hit = omega arith in
    subst (IsRowEnd bytes (k + 1)) (sym (get_or_push ends (hit + 1) d k (sym last))) (record {
      some = omega arith;
      within = omega arith;
      low = omega (arith, ap (row_of (breaks_of bytes)) back, counted, last);
      high = omega (arith, rows_more bytes hit lt, ap {B = ℕ} (λ t. cond t 1 0) test, counted, last);
    }))
    (cases_lt k (length ends)))

-- ASCII: so many bytes further
pub ascii_reach : (e : Encoding) (bytes : List ℕ) (from to most step : ℕ) → IsAscii bytes → from ≤ to → to ≤ length bytes → step ≤ to - from → step ≤ most → (step < to - from → step ≡ most)
    → IsLastUpTo e bytes (before e bytes from + most) to (from + step)
ascii_reach e bytes from to most step ascii le within few least is = record {
  upto = omega arith;
  few = omega (arith, ascii_before e bytes from ascii (omega arith), ascii_before e bytes (from + step) ascii (omega arith));
  more = λ lt. omega (arith, ascii_before e bytes from ascii (omega arith), ascii_before e bytes (from + step + 1) ascii (omega arith), is (omega arith));
}

-- what is reached up to the end of all
pub reach_all : (e : Encoding) (bytes : List ℕ) (most limit place : ℕ) → limit ≡ length bytes → IsLastUpTo e bytes (before e bytes 0 + most) limit place → IsLastWithin e bytes most place
reach_all e bytes most limit place whole is = record {
  within = omega (arith, is.upto, whole);
  few = omega (arith, is.few, before-none e bytes);
  more = λ lt. omega (arith, is.more (omega (arith, lt, whole)), before-none e bytes);
}

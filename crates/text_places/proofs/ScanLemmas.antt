-- Scans that pass over many bytes together.
use Rattle.std.proofs.Common.{◌≡◌, ℕ, ◌+◌, ◌-◌, ◌≤◌, ◌<◌, ◌==◌, Bool, true, false, cond, suc, zero, List, [], ◌∷◌, length, take, drop, get_or, refl, sym, ap, ◌∙◌, arith, count_by, add-one}
use Rattle.std.specs.Str.{IsAscii}
use Rattle.std.proofs.lemmas.Bool.Decides.{nat_tests}
use Rattle.std.proofs.lemmas.List.{take_more, length-take-le, length-drop, get_or-take, get_or-drop}
use Rattle.std.proofs.lemmas.List.Sums.{sum_by-append, sum_by-cons}
use Rattle.memchr.specs.Find.{Nowhere, NoneBefore, Passes, is_byte, is_byte2}
use Rattle.source_location.specs.Breaks.{breaks_of}
use Rattle.source_location.specs.Rows.{row_of}
use Rattle.text_places.specs.Bytes.{units_begun, begun, before}
use Rattle.text_places.specs.declared.encoding.Encoding.{Encoding}
use Rattle.text_places.specs.declared.encoding.Encoding.TheVariants.{Utf8, Utf16, Utf32}
use Rattle.text_places.proofs.UnitsLemmas.{before-more, before-none}
use Rattle.base_lemmas.proofs.Lists.{slice_range-rest}
use Rattle.oxc_windows.proofs.ByteRowsLemmas.{rows_begin}
use Rattle.text_places.proofs.EndLemmas.{rows_more}

-- ASCII: a unit begins with each byte
ascii_one : (e : Encoding) (byte : ℕ) → byte < 128 → units_begun e byte ≡ 1
ascii_one Utf8 byte low = grind (arith, nat_tests)
ascii_one Utf16 byte low = grind (arith, nat_tests)
ascii_one Utf32 byte low = grind (arith, nat_tests)

pub ascii_begun : (e : Encoding) (bytes : List ℕ) → IsAscii bytes → begun e bytes ≡ length bytes
unfolding begun
ascii_begun e [] ascii = refl
ascii_begun e (byte ∷ bytes) ascii = omega (arith, sum_by-cons (units_begun e) byte bytes, ascii_one e byte (ascii 0), ascii_begun e bytes (λ i. ascii (suc i)))

pub ascii_before : (e : Encoding) (bytes : List ℕ) (p : ℕ) → IsAscii bytes → p ≤ length bytes → before e bytes p ≡ p
ascii_before e bytes zero ascii within = before-none e bytes
ascii_before e bytes (suc p) ascii within =
    ap (before e bytes) (sym (add-one p))
    ∙ omega (arith, before-more e bytes p (omega (arith, within)), ascii_before e bytes p ascii (omega (arith, within)), ascii_one e (get_or bytes p 0) (ascii p))

-- without a CR a row ends with each LF and no other byte
lf_alone : (byte : ℕ) (lone : Bool) → (byte ≡ 13 → ⊥) → cond {A = ℕ} (cond (byte == 10) true (cond (byte == 13) lone false)) 1 0 ≡ cond {A = ℕ} (byte == 10) 1 0
lf_alone byte lone other = grind (arith, nat_tests)

lf_rows : (bytes : List ℕ) (to : ℕ) → to ≤ length bytes → ((k : ℕ) → k < to → get_or bytes k 0 ≡ 13 → ⊥) → row_of (breaks_of bytes) to ≡ count_by (λ byte. byte == 10) (take to bytes)
lf_rows bytes zero within none = rows_begin bytes
lf_rows bytes (suc n) within none =
    let h : n < length bytes = omega (arith, within) in
    let byte = get_or bytes n 0 in
    ap (row_of (breaks_of bytes)) (sym (add-one n))
    ∙ omega (
      arith,
      rows_more bytes n h,
      lf_alone byte (cond (get_or bytes (n + 1) 0 == 10) false true) (none n (omega arith)),
      lf_rows bytes n (omega (arith, within)) (λ k lt. none k (omega (arith, lt))),
      ap (count_by (λ byte. byte == 10)) (take_more bytes n 0 h),
      sum_by-append (λ byte. cond (byte == 10) 1 0) (take n bytes) (byte ∷ []),
      sum_by-cons (λ byte. cond (byte == 10) 1 0) byte [],
    )
    ∙ ap (λ n. count_by (λ byte. byte == 10) (take n bytes)) (add-one n)

pub rows_by_lf : (bytes front : List ℕ) (to : ℕ) → to ≤ length bytes → front ≡ take to bytes → Nowhere (Passes (is_byte 13) front) 0 (length front) → count_by (λ byte. byte == 10) front ≡ row_of (breaks_of bytes) to
rows_by_lf bytes front to within is none =
    let size : length front ≡ to = ap length is ∙ length-take-le to bytes within in
    ap (count_by (λ byte. byte == 10)) is ∙ sym (lf_rows bytes to within (λ k lt cr.
    none k (omega arith) (omega (arith, lt, size)) (same (get_or front k 0) (ap (λ l. get_or l k 0) is ∙ get_or-take to bytes k 0 lt ∙ cr))))
  where
    same : (byte : ℕ) → byte ≡ 13 → (byte == 13) ≡ true
    same byte e = grind (arith, nat_tests)

-- no row ends where neither an LF nor a CR stands
not_end : (byte : ℕ) (lone : Bool) → ((is_byte2 10 13 byte ≡ true) → ⊥) → cond (byte == 10) true (cond (byte == 13) lone false) ≡ false
not_end byte lone other = grind (arith, nat_tests)

pub rows_flat : (bytes : List ℕ) (at count : ℕ) → at + count ≤ length bytes → ((k : ℕ) → k < count → is_byte2 10 13 (get_or (drop at bytes) k 0) ≡ true → ⊥) → row_of (breaks_of bytes) (at + count) ≡ row_of (breaks_of bytes) at
rows_flat bytes at zero within none = ap (row_of (breaks_of bytes)) (let e : at + 0 ≡ at = omega arith in e)
rows_flat bytes at (suc n) within none =
    let place : at + suc n ≡ at + n + 1 = omega arith in
    ap (row_of (breaks_of bytes)) place
    ∙ omega (
      arith,
      rows_more bytes (at + n) (omega (arith, within)),
      ap {B = ℕ} (λ t. cond t 1 0)
          (not_end (get_or bytes (at + n) 0) (cond (get_or bytes (at + n + 1) 0 == 10) false true) (λ is. none n (omega arith) (ap (is_byte2 10 13) (get_or-drop at bytes n 0) ∙ is))),
      rows_flat bytes at n (omega (arith, within)) (λ k lt. none k (omega (arith, lt))),
    )

pub rows_skip : (bytes : List ℕ) (at skip : ℕ) → at ≤ length bytes
    → NoneBefore (Passes (is_byte2 10 13) (take (length bytes - at) (drop at bytes))) 0 (length (take (length bytes - at) (drop at bytes))) skip
    → (row_of (breaks_of bytes) (at + skip) ≡ row_of (breaks_of bytes) at) × (at + skip < length bytes)
rows_skip bytes at skip within none =
    let lt : at + skip < length bytes = omega (arith, none.high, ap length (slice_range-rest bytes at), length-drop at bytes) in (
      rows_flat bytes at skip (omega (arith, lt)) (λ k below is. none.before k (omega arith) below (ap (λ l. is_byte2 10 13 (get_or l k 0)) (slice_range-rest bytes at) ∙ is)),
      lt,
    )

pub rows_end : (bytes : List ℕ) (at : ℕ) → at ≤ length bytes
    → Nowhere (Passes (is_byte2 10 13) (take (length bytes - at) (drop at bytes))) 0 (length (take (length bytes - at) (drop at bytes)))
    → row_of (breaks_of bytes) (length bytes) ≡ row_of (breaks_of bytes) at
rows_end bytes at within none =
    let size : length (take (length bytes - at) (drop at bytes)) ≡ length bytes - at = ap length (slice_range-rest bytes at) ∙ length-drop at bytes in
    let whole : at + (length bytes - at) ≡ length bytes = omega (arith, within) in
    ap (row_of (breaks_of bytes)) (sym whole)
    ∙ rows_flat bytes at (length bytes - at) (omega (arith, whole)) (λ k below is. none k (omega arith) (omega (arith, below, size)) (ap (λ l. is_byte2 10 13 (get_or l k 0)) (slice_range-rest bytes at) ∙ is))

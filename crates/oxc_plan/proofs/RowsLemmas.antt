-- Pieces.
use Rattle.std.proofs.Common.{◌≡◌, ℕ, ◌+◌, ◌<◌, ◌≤◌, Bool, true, false, List, [], ◌∷◌, ◌++◌, length, take, drop, get_or, eqb, refl, sym, ap, subst, ◌∙◌, arith, zero, suc, ⊎_elim}
use Rattle.std.specs.List.{position_or_len}
use Rattle.std.proofs.lemmas.Bool.{cases_lt}
use Rattle.std.proofs.lemmas.List.{take_all, drop_all, length-drop, length-take-le, drop-drop, append_assoc, nil_from_length}
use Rattle.std.proofs.lemmas.List.Sums.{fails_before_first, passes_at_first, position_or_len_is}
use Rattle.memchr.specs.Find.{NoneBefore, Nowhere, Passes, is_byte}
use Rattle.oxc_windows.proofs.Counting.{false_unless}
use Rattle.oxc_plan.specs.Rows.{pieces, with_byte, first_len, row_of_piece, RowView, numbered, rows_from}

pub pieces-nil : pieces [] ≡ []
unfolding pieces
pieces-nil = refl

-- a piece that ends with the first LF
pieces_at : (bytes : List ℕ) (n : ℕ) → n < length bytes → ((k : ℕ) → k < n → eqb (get_or bytes k 0) 10 ≡ false) → eqb (get_or bytes n 0) 10 ≡ true
    → pieces bytes ≡ take (suc n) bytes ∷ pieces (drop (suc n) bytes)
unfolding pieces
pieces_at [] n lt none here = absurd (omega arith)
pieces_at (b ∷ bytes) zero lt none here = rw here refl
pieces_at (b ∷ bytes) (suc n) lt none here =
    let other : eqb b 10 ≡ false = none 0 (omega arith) in
    rw other (ap (with_byte b) (pieces_at bytes n (omega arith) (λ k h. none (suc k) (omega arith)) here))

-- a last piece without LF
pieces_last : (bytes : List ℕ) → 0 < length bytes → ((k : ℕ) → k < length bytes → eqb (get_or bytes k 0) 10 ≡ false) → pieces bytes ≡ bytes ∷ []
unfolding pieces
pieces_last [] some none = absurd (omega arith)
pieces_last (b ∷ []) some none = let other : eqb b 10 ≡ false = none 0 (omega arith) in rw other refl
pieces_last (b ∷ c ∷ bytes) some none =
    let other : eqb b 10 ≡ false = none 0 (omega arith) in
    rw other (ap (with_byte b) (pieces_last (c ∷ bytes) (omega arith) (λ k h. none (suc k) (omega arith))))

-- the bytes up to and with the first LF, and the others
pub pieces_first : (bytes : List ℕ) → 0 < length bytes → pieces bytes ≡ take (first_len bytes) bytes ∷ pieces (drop (first_len bytes) bytes)
pieces_first bytes some =
    let p : ℕ → Bool = λ b. eqb b 10 in
    let n = position_or_len p bytes in
    ⊎_elim
    (λ lt.
    let size : suc n ≡ first_len bytes = omega arith in
    subst (λ k. pieces bytes ≡ take k bytes ∷ pieces (drop k bytes)) size (pieces_at bytes n lt (λ k h. fails_before_first p bytes k 0 h) (passes_at_first p bytes 0 lt)))
    (λ ge.
    let size : length bytes ≡ first_len bytes = omega arith in
    let whole = pieces_last bytes some (λ k h. fails_before_first p bytes k 0 (omega arith)) in
    subst (λ k. pieces bytes ≡ take k bytes ∷ pieces (drop k bytes)) size (rw (take_all (length bytes) bytes (omega arith), drop_all (length bytes) bytes (omega arith), pieces-nil) whole))
    (cases_lt n (length bytes))

-- an LF with none before it ends the first piece
pub first_len_found : (bytes : List ℕ) (at : ℕ) → NoneBefore (Passes (is_byte 10) bytes) 0 (length bytes) at × Passes (is_byte 10) bytes at → at + 1 ≡ first_len bytes
first_len_found bytes at found =
    let first = position_or_len_is (λ b. eqb b 10) bytes at 0 (omega (arith, found.0.high)) (λ k h. false_unless (eqb (get_or bytes k 0) 10) (found.0.before k (omega arith) h)) (λ h. found.1) in
    omega (arith, found.0.high, first)

-- with no LF there is one piece
pub first_len_none : (bytes : List ℕ) → Nowhere (Passes (is_byte 10) bytes) 0 (length bytes) → length bytes ≡ first_len bytes
first_len_none bytes none =
    let first = position_or_len_is (λ b. eqb b 10) bytes (length bytes) 0 (omega arith) (λ k h. false_unless (eqb (get_or bytes k 0) 10) (none k (omega arith) h)) (λ h. absurd (omega arith)) in
    omega (arith, first)

pub first_len_bounds : (bytes : List ℕ) → 0 < length bytes → (0 < first_len bytes) × (first_len bytes ≤ length bytes)
first_len_bounds bytes some = (omega arith, omega arith)

-- the rows of bytes begin with the row of their first piece
rows_step : (above offset : ℕ) (bytes : List ℕ) → 0 < length bytes
    → numbered above offset (pieces bytes) ≡ row_of_piece above offset (take (first_len bytes) bytes) ∷ numbered (above + 1) (offset + length (take (first_len bytes) bytes)) (pieces (drop (first_len bytes) bytes))
unfolding numbered
rows_step above offset bytes some = rw (pieces_first bytes some) refl

-- the rows of bytes are that of their first piece, and those of the others
pub rows_cut : (row : RowView) (above offset : ℕ) (bytes piece rest : List ℕ) → 0 < length bytes → piece ≡ take (first_len bytes) bytes → row ≡ row_of_piece above offset piece
    → rest ≡ drop (length piece) bytes → rows_from above offset bytes ≡ row ∷ rows_from (above + 1) (offset + length piece) rest
rows_cut row above offset bytes piece rest some is_piece is_row is_rest =
    let n = first_len bytes in
    let size : length piece ≡ n = ap length is_piece ∙ length-take-le n bytes (first_len_bounds bytes some).1 in
    rows_step above offset bytes some
    ∙ ap (λ q. row_of_piece above offset q ∷ numbered (above + 1) (offset + length q) (pieces (drop n bytes))) (sym is_piece)
    ∙ ap (λ r. r ∷ numbered (above + 1) (offset + length piece) (pieces (drop n bytes))) (sym is_row)
    ∙ ap (λ k. row ∷ numbered (above + 1) (offset + length piece) (pieces (drop k bytes))) (sym size)
    ∙ ap (λ l. row ∷ numbered (above + 1) (offset + length piece) (pieces l)) (sym is_rest)

pub rows_none : (above offset : ℕ) (bytes : List ℕ) → length bytes ≡ 0 → numbered above offset (pieces bytes) ≡ []
unfolding numbered
rows_none above offset bytes none = ap (λ l. numbered above offset (pieces l)) (nil_from_length bytes none) ∙ ap (numbered above offset) pieces-nil

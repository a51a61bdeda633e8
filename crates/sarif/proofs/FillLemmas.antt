-- Pieces of a text one by one.
use Rattle.std.proofs.Common.{◌≡◌, ℕ, ◌+◌, ◌-◌, ◌<◌, ◌≤◌, zero, suc, List, [], ◌∷◌, ◌++◌, length, get_or, slice_index, take, drop, eqb, ◌||◌, inl, inr, true, false, refl, sym, ap, ◌∙◌, subst, arith, add-zero}
use Rattle.std.proofs.lemmas.List.{append-nil, append_assoc, drop_all, drop_more, drop-drop, length-drop, get_or_past}
use Rattle.std.proofs.lemmas.Bool.{and_parts, eqb-true, ltb-true, or_parts}
use Rattle.std.proofs.lemmas.Bool.Decides.{eqb_tells, leb_tells}
use Rattle.std.proofs.lemmas.Str.{IsCharBoundary-after_ascii}
use Rattle.std.specs.Str.{IsUtf8, IsCharBoundary}
use Rattle.sarif.specs.Fill.{filled_from, is_brace, is_placeholder, piece_at}

filled_skip : (arguments : List (List ℕ)) (k : ℕ) (bytes : List ℕ) → k ≤ length bytes → filled_from arguments k bytes ≡ filled_from arguments 0 (drop k bytes)
unfolding filled_from
filled_skip arguments zero bytes fits = refl
filled_skip arguments (suc k) [] fits = absurd (omega (arith, fits))
filled_skip arguments (suc k) (b ∷ bytes) fits = filled_skip arguments k bytes (omega (arith, fits))

a_piece : (arguments : List (List ℕ)) (b : ℕ) (bytes : List ℕ)
    → filled_from arguments 0 (b ∷ bytes) ≡ (piece_at arguments (b ∷ bytes)).text ++ filled_from arguments ((piece_at arguments (b ∷ bytes)).width - 1) bytes
unfolding filled_from
a_piece arguments b bytes = refl

-- the text of what is left begins with its first piece
pub filled_piece : (arguments : List (List ℕ)) (at width : ℕ) (text : List ℕ) → at < length text → width ≡ (piece_at arguments (drop at text)).width → 0 < width → at + width ≤ length text
    → filled_from arguments 0 (drop at text) ≡ (piece_at arguments (drop at text)).text ++ filled_from arguments 0 (drop (at + width) text)
filled_piece arguments at width text within wide some fits =
    let here : drop at text ≡ get_or text at 0 ∷ drop (at + 1) text = drop_more text at 0 within in
    let size : length (drop (at + 1) text) ≡ length text - (at + 1) = length-drop (at + 1) text in
    let left : width - 1 ≤ length (drop (at + 1) text) = omega (arith, size, fits, some, within) in
    let place : at + 1 + (width - 1) ≡ at + width = omega (arith, some) in
    let rest : filled_from arguments (width - 1) (drop (at + 1) text) ≡ filled_from arguments 0 (drop (at + width) text) =
    filled_skip arguments (width - 1) (drop (at + 1) text) left
    ∙ ap (filled_from arguments 0) (drop-drop (width - 1) (at + 1) text)
    ∙ ap (λ n. filled_from arguments 0 (drop n text)) place in
    ap (filled_from arguments 0) here
    ∙ a_piece arguments (get_or text at 0) (drop (at + 1) text)
    ∙ ap (λ bytes. (piece_at arguments bytes).text ++ filled_from arguments ((piece_at arguments bytes).width - 1) (drop (at + 1) text)) (sym here)
    ∙ ap (λ n. (piece_at arguments (drop at text)).text ++ filled_from arguments (n - 1) (drop (at + 1) text)) (sym wide)
    ∙ ap (λ more. (piece_at arguments (drop at text)).text ++ more) rest

plain_piece : (arguments : List (List ℕ)) (b : ℕ) (bytes : List ℕ) → is_brace b ≡ false → piece_at arguments (b ∷ bytes) ≡ record { text = b ∷ []; width = 1 }
unfolding piece_at
plain_piece arguments b bytes plain =
    let none : (eqb b 0x7B ≡ false) × (eqb b 0x7D ≡ false) = or_parts (eqb b 0x7B) (eqb b 0x7D) plain in
    rw (none.0, none.1) refl

-- bytes that are no braces are themselves
pub filled_plain : (arguments : List (List ℕ)) (run : ℕ) (bytes : List ℕ) → run ≤ length bytes → ((k : ℕ) → k < run → is_brace (slice_index bytes k) ≡ false)
    → filled_from arguments 0 bytes ≡ take run bytes ++ filled_from arguments 0 (drop run bytes)
filled_plain arguments zero bytes fits plain = refl
filled_plain arguments (suc run) [] fits plain = absurd (omega (arith, fits))
filled_plain arguments (suc run) (b ∷ bytes) fits plain =
    a_piece arguments b bytes
    ∙ ap (λ piece. piece.text ++ filled_from arguments (piece.width - 1) bytes) (plain_piece arguments b bytes (plain 0 (omega arith)))
    ∙ ap (λ more. b ∷ more) (filled_plain arguments run bytes (omega (arith, fits)) (λ k low. plain (suc k) (omega (arith, low))))

-- ---- steps of the text

pub plain_step : (arguments : List (List ℕ)) (text out total : List ℕ) (at run : ℕ) → run ≤ length (drop at text)
    → ((k : ℕ) → k < run → is_brace (slice_index (drop at text) k) ≡ false) → out ++ filled_from arguments 0 (drop at text) ≡ total
    → (out ++ take run (drop at text)) ++ filled_from arguments 0 (drop (at + run) text) ≡ total
plain_step arguments text out total at run fits plain so_far =
    append_assoc out (take run (drop at text)) (filled_from arguments 0 (drop (at + run) text))
    ∙ ap (λ more. out ++ more)
    (ap (λ rest. take run (drop at text) ++ filled_from arguments 0 rest) (sym (drop-drop run at text))
    ∙ sym (filled_plain arguments run (drop at text) fits plain))
    ∙ so_far

pub piece_step : (arguments : List (List ℕ)) (text out total : List ℕ) (at width : ℕ) → at < length text → width ≡ (piece_at arguments (drop at text)).width → 0 < width → at + width ≤ length text
    → out ++ filled_from arguments 0 (drop at text) ≡ total
    → (out ++ (piece_at arguments (drop at text)).text) ++ filled_from arguments 0 (drop (at + width) text) ≡ total
piece_step arguments text out total at width within wide some fits so_far =
    append_assoc out (piece_at arguments (drop at text)).text (filled_from arguments 0 (drop (at + width) text))
    ∙ ap (λ more. out ++ more) (sym (filled_piece arguments at width text within wide some fits))
    ∙ so_far

-- ---- where braces stand

pub byte_within : (bytes : List ℕ) (k n : ℕ) → slice_index bytes k ≡ n → 0 < n → k < length bytes
byte_within bytes k n here some =
    elim (leb_tells (length bytes) k) [
      | inl t ↦ (let past : slice_index bytes k ≡ 0 = get_or_past bytes k 0 t.1 in absurd (omega (arith, here, past, some)))
      | inr t ↦ t.1
    ]

-- behind an ASCII byte no character is cut
pub after_byte : (bytes : List ℕ) (k n : ℕ) → IsUtf8 bytes → slice_index bytes k ≡ n → 0 < n → n < 128 → IsCharBoundary bytes (k + 1)
after_byte bytes k n utf8 here some ascii = IsCharBoundary-after_ascii bytes k utf8 (byte_within bytes k n here some) (omega (arith, here, ascii))

pub after_brace : (bytes : List ℕ) → IsUtf8 bytes → is_brace (slice_index bytes 0) ≡ true → IsCharBoundary bytes 1
after_brace bytes utf8 brace =
    elim (eqb_tells (slice_index bytes 0) 0x7B) [
      | inl t ↦ after_byte bytes 0 0x7B utf8 t.1 (omega arith) (omega arith)
      | inr t ↦
          (let other : (eqb (slice_index bytes 0) 0x7B || eqb (slice_index bytes 0) 0x7D) ≡ true = brace in
          let close : eqb (slice_index bytes 0) 0x7D ≡ true = rw t.0 at other in
          after_byte bytes 0 0x7D utf8 (eqb-true (slice_index bytes 0) 0x7D close) (omega arith) (omega arith))
    ]

pub record IsOpenAndClosed (bytes : List ℕ) (digits : ℕ) : Type 0 where
  pub open_at : slice_index bytes 0 ≡ 0x7B
  pub some : 0 < digits
  pub close_at : slice_index bytes (digits + 1) ≡ 0x7D

pub placeholder_parts : (bytes : List ℕ) (digits : ℕ) → is_placeholder bytes digits ≡ true → IsOpenAndClosed bytes digits
placeholder_parts bytes digits is =
    let first = and_parts _ _ is in
    let second = and_parts _ _ first.1 in
    let third = and_parts _ _ second.1 in
    record { open_at = eqb-true _ _ first.0; some = ltb-true _ _ second.0; close_at = eqb-true _ _ third.1 }

pub after_open : (bytes : List ℕ) (digits : ℕ) → IsUtf8 bytes → is_placeholder bytes digits ≡ true → IsCharBoundary bytes 1
after_open bytes digits utf8 is = after_byte bytes 0 0x7B utf8 (placeholder_parts bytes digits is).open_at (omega arith) (omega arith)

pub after_close : (bytes : List ℕ) (digits : ℕ) → IsUtf8 bytes → is_placeholder bytes digits ≡ true → IsCharBoundary bytes (digits + 2)
after_close bytes digits utf8 is =
    let place : digits + 1 + 1 ≡ digits + 2 = omega arith in
    subst (IsCharBoundary bytes) place (after_byte bytes (digits + 1) 0x7D utf8 (placeholder_parts bytes digits is).close_at (omega arith) (omega arith))

pub filled_end : (arguments : List (List ℕ)) (text out total : List ℕ) (at : ℕ) → length text ≤ at → out ++ filled_from arguments 0 (drop at text) ≡ total → out ≡ total
unfolding filled_from
filled_end arguments text out total at past so_far =
    let none : filled_from arguments 0 (drop at text) ≡ [] = ap (filled_from arguments 0) (drop_all at text past) in
    sym (append-nil out) ∙ ap (λ more. out ++ more) (sym none) ∙ so_far

-- Characters past ASCII, and what stands between them.
use Rattle.std.proofs.Common.{◌≡◌, ℕ, ◌+◌, ◌-◌, ◌≤◌, ◌<◌, List, length, get_or, sym, ap, subst, ◌∙◌, arith, zero, suc, ⊎_elim, AllPairs}
use Rattle.std.specs.Char.{IsScalar, len_utf8}
use Rattle.std.specs.Str.{IsUtf8, IsCharBoundary}
use Rattle.std.specs.Str.Pattern.{HasCharAt}
use Rattle.std.proofs.lemmas.Bool.{cases_lt}
use Rattle.std.proofs.lemmas.Bool.Decides.{nat_tests}
use Rattle.std.proofs.lemmas.Str.{IsCharBoundary-after_ascii, len_utf8_bounds}
use Rattle.utf16_places.specs.declared.wide.WideCharacter.{WideCharacter}
use Rattle.utf16_places.specs.Index.{IsWideIn, AreWideBefore}
use Rattle.utf16_places.proofs.UnitsLemmas.{units_begun, before, before-more, scalar_low}
use Rattle.utf16_places.proofs.CharacterLemmas.{byte_of, encode_first, encode_inner}

-- a character by its bytes
pub record IsWideSpan (text : List ℕ) (start end : ℕ) : Type 0 where
  pub first : 192 ≤ get_or text start 0
  pub some : start < end
  pub inner : (p : ℕ) → start < p → p < end → (128 ≤ get_or text p 0) × (get_or text p 0 < 192)
  pub boundary : IsCharBoundary text end

pub wide_span : (text : List ℕ) (c start end : ℕ) → IsScalar c → HasCharAt c text start end → 128 ≤ c → IsWideSpan text start end
wide_span text c start end is at high =
    let low = scalar_low c is in
    let none : start + 0 ≡ start = omega arith in
    record {
      first = omega (arith, (encode_first c low high).0, byte_of text c start end 0 at (omega (arith, (len_utf8_bounds c).0)), ap (λ k. get_or text k 0) none);
      some = omega (arith, at.ends, (len_utf8_bounds c).0);
      inner = λ p from upto.
          let k = p - start in
          let place : start + k ≡ p = omega arith in
          let here : k < len_utf8 c = omega (arith, at.ends) in
          let same = byte_of text c start end k at here in
          let bounds = encode_inner c k low (omega arith) here in
          subst (λ q. (128 ≤ get_or text q 0) × (get_or text q 0 < 192)) place (omega (arith, same, bounds), omega (arith, same, bounds));
      boundary = subst (λ k. IsCharBoundary text k) (sym at.ends) at.after;
    }

pub span_of : (text : List ℕ) (w : WideCharacter) → IsWideIn text w → IsWideSpan text w.start w.end
span_of text w is = wide_span text is.character w.start w.end is.scalar is.stands is.past_ascii

-- no boundary stands inside it
pub past_span : (text : List ℕ) (start end o : ℕ) → IsWideSpan text start end → IsCharBoundary text o → start < o → end ≤ o
past_span text start end o span b from =
    ⊎_elim (λ inside. absurd (omega (arith, span.inner o from inside, b.1 (omega (arith, span.boundary.0, inside)) (span.inner o from inside).0))) (λ past. past) (cases_lt o end)

ascii_begun : (byte : ℕ) → byte < 128 → units_begun byte ≡ 1
ascii_begun byte low = grind (arith, nat_tests)

-- where no character past ASCII begins, each place is a boundary with one unit more
pub plain : (text : List ℕ) (base next : ℕ) → IsUtf8 text → IsCharBoundary text base → next ≤ length text
    → ((p : ℕ) → base ≤ p → p < next → get_or text p 0 < 192)
    → (d : ℕ) → base + d ≤ next → IsCharBoundary text (base + d) × (before text (base + d) ≡ before text base + d)
plain text base next utf8 b within none zero le =
    let same : base ≡ base + 0 = omega arith in
    (subst (λ k. IsCharBoundary text k) same b, ap (λ k. before text k) (sym same) ∙ omega arith)
plain text base next utf8 b within none (suc d) le =
    let p = base + d in
    let earlier = plain text base next utf8 b within none d (omega arith) in
    let here : p < length text = omega arith in
    let low : get_or text p 0 < 128 = low_of (none p (omega arith) (omega arith)) (earlier.0.1 here) in
    let one_more : p + 1 ≡ base + suc d = omega arith in (
      subst (λ k. IsCharBoundary text k) one_more (IsCharBoundary-after_ascii text p utf8 here low),
      ap (λ k. before text k) (sym one_more) ∙ before-more text p here ∙ omega (arith, earlier.1, ascii_begun (get_or text p 0) low),
    )
  where
    low_of : {byte : ℕ} → byte < 192 → (128 ≤ byte → 192 ≤ byte) → byte < 128
    low_of {byte} h b = ⊎_elim (λ low. low) (λ high. absurd (omega (arith, b high))) (cases_lt byte 128)

-- the value of a place without a character
pub nowhere : WideCharacter
nowhere = record { start = 0; end = 0; unit = 0 }

-- the first k of the characters start before the base, and the others not before the next place: between them none begins
pub none_begins : (text : List ℕ) (wide : List WideCharacter) (k base next : ℕ) → AreWideBefore text (length text) wide → next ≤ length text
    → ((j : ℕ) (d : WideCharacter) → j < k → (get_or wide j d).start < base)
    → ((j : ℕ) (d : WideCharacter) → k ≤ j → j < length wide → next ≤ (get_or wide j d).start)
    → (p : ℕ) → base ≤ p → p < next → get_or text p 0 < 192
none_begins text wide k base next are within earlier later p from upto =
    ⊎_elim (λ low. low) (λ high. absurd (found (are.complete p (omega arith) high))) (cases_lt (get_or text p 0) 192)
  where
    found : (j : ℕ) × (j < length wide) × ((d : WideCharacter) → (get_or wide j d).start ≡ p) → ⊥
    found (j, short, at) =
        ⊎_elim (λ lt. omega (arith, earlier j nowhere lt, at nowhere)) (λ ge. omega (arith, later j nowhere ge short, at nowhere)) (cases_lt j k)

-- characters that start one after another do so by their places, also where the places may be equal
pub starts_rise : (wide : List WideCharacter) → AllPairs (λ a b. a.start < b.start) wide → (i j : ℕ) (d : WideCharacter) → i ≤ j → j < length wide → (get_or wide i d).start ≤ (get_or wide j d).start
starts_rise wide ascend i j d le h =
    ⊎_elim (λ lt. omega (arith, ascend i j d lt h))
    (λ ge. let same : i ≡ j = omega arith in omega (arith, ap (λ k. (get_or wide k d).start) same))
    (cases_lt i j)

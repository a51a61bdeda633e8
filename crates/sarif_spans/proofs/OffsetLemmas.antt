-- Places by bytes.
use Rattle.std.proofs.Common.{◌≡◌, ℕ, zero, suc, ◌+◌, ◌-◌, ◌<◌, ◌≤◌, List, [], ◌∷◌, length, Option, Some, None, option_map, zero-add, add-zero, ◌++◌, true, inl, inr, refl, sym, ap, ◌∙◌, subst, arith}
use lib.Utf8.{encode}
use Rattle.std.specs.Char.{len_utf8}
use Rattle.std.specs.Str.{IsUtf8, IsCharBoundary, chars}
use Rattle.std.proofs.lemmas.Str.{chars_past_char}
use Rattle.std.proofs.lemmas.Bool.{both_ways, cases_Bool}
use Rattle.std.proofs.lemmas.Bool.Decides.{leb_tells, nat_tests}
use Rattle.sarif_spans.specs.Span.{cuts_none, floor_of, passed}

cuts_here : (text : List ℕ) (at : ℕ) → cuts_none text at ≡ true → IsCharBoundary text at
cuts_here text at holds_so = grind (arith, nat_tests)

cuts_one : (text : List ℕ) (at : ℕ) → IsCharBoundary text at → cuts_none text at ≡ true
cuts_one text at cut = grind (arith, nat_tests)

-- the last place up to this one at which no character is cut is the one that is there
pub floor_is : (text : List ℕ) (at floor : ℕ) → floor ≤ at → IsCharBoundary text floor → ((k : ℕ) → floor < k → k ≤ at → ¬ (IsCharBoundary text k)) → floor ≡ floor_of text at
unfolding floor_of
floor_is text zero floor low cut nearest = omega (arith, low)
floor_is text (suc at) floor low cut nearest =
    elim (cases_Bool (cuts_none text (suc at))) [
      | inl holds_so ↦
          rw holds_so
          (elim (leb_tells (suc at) floor) [
            | inl t ↦ omega (arith, t.1, low)
            | inr t ↦ absurd (nearest (suc at) t.1 (omega arith) (cuts_here text (suc at) holds_so))
          ])
      | inr not_so ↦
          (let past : floor ≡ suc at → ⊥ = λ same. both_ways (cuts_none text (suc at)) not_so (cuts_one text (suc at) (subst (IsCharBoundary text) same cut)) in
          let below : floor ≤ at = omega (arith, low, past) in
          rw not_so (floor_is text at floor below cut (λ k above within. nearest k above (omega (arith, within)))))
    ]

floor_low : (text : List ℕ) (at : ℕ) → floor_of text at ≤ at
unfolding floor_of
floor_low text zero = omega arith
floor_low text (suc at) =
    elim (cases_Bool (cuts_none text (suc at))) [
      | inl holds_so ↦ rw holds_so (omega arith)
      | inr not_so ↦ rw not_so (omega (arith, floor_low text at))
    ]

-- a later place doesn't go down further than an earlier one
pub floor_grows : (text : List ℕ) (a b : ℕ) → a ≤ b → floor_of text a ≤ floor_of text b
unfolding floor_of
floor_grows text a zero low = let none : a ≡ 0 = omega (arith, low) in subst (λ n. floor_of text n ≤ 0) (sym none) (omega arith)
floor_grows text a (suc b) low =
    elim (leb_tells a b) [
      | inl t ↦
          elim (cases_Bool (cuts_none text (suc b))) [
            | inl holds_so ↦ rw holds_so (omega (arith, floor_low text a, t.1))
            | inr not_so ↦ rw not_so (floor_grows text a b t.1)
          ]
      | inr t ↦ (let same : a ≡ suc b = omega (arith, low, t.1) in subst (λ n. floor_of text n ≤ floor_of text (suc b)) (sym same) (omega arith))
    ]

-- ---- characters

pub maps_zero : (it : Option ℕ) → option_map (λ bytes. 0 + bytes) it ≡ it
maps_zero None = refl
maps_zero (Some n) = ap Some (zero-add n)

maps_twice : (a b : ℕ) (it : Option ℕ) → option_map (λ bytes. a + bytes) (option_map (λ bytes. b + bytes) it) ≡ option_map (λ bytes. a + b + bytes) it
maps_twice a b None = refl
maps_twice a b (Some n) = let e : a + (b + n) ≡ a + b + n = omega arith in ap Some e

-- one character more is passed
pub passed_go : (at left c : ℕ) (bytes rest : List ℕ) → IsUtf8 bytes → bytes ≡ encode c ++ rest → 0 < left
    → option_map (λ n. at + n) (passed left (chars bytes)) ≡ option_map (λ n. at + len_utf8 c + n) (passed (left - 1) (chars rest))
unfolding passed
passed_go at zero c bytes rest utf8 is some = absurd (omega (arith, some))
passed_go at (suc left) c bytes rest utf8 is some =
    let same : left ≡ suc left - 1 = omega arith in
    ap (λ cs. option_map (λ n. at + n) (passed (suc left) cs)) (chars_past_char bytes rest c utf8 is)
    ∙ maps_twice at (len_utf8 c) (passed left (chars rest))
    ∙ ap (λ k. option_map (λ n. at + len_utf8 c + n) (passed k (chars rest))) same

-- none is left to pass
pub passed_all : (at left : ℕ) (cs : List ℕ) → left ≡ 0 → option_map (λ n. at + n) (passed left cs) ≡ Some at
unfolding passed
passed_all at zero cs none = ap Some (add-zero at)
passed_all at (suc left) cs none = absurd (omega (arith, none))

-- no character is left
pub passed_short : (at left : ℕ) (bytes : List ℕ) → (left ≡ 0 → ⊥) → length bytes ≡ 0 → option_map (λ n. at + n) (passed left (chars bytes)) ≡ None
unfolding passed chars
passed_short at zero bytes some none = absurd (some refl)
passed_short at (suc left) [] some none = refl
passed_short at (suc left) (b ∷ bytes) some none = absurd (omega (arith, none))

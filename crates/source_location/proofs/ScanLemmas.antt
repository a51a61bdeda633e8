-- The LFs and CRs among the lanes of a vector, as bits.
use Rattle.std.proofs.Common.{◌≡◌, ◌↔◌, ℕ, ◌+◌, ◌-◌, ◌%◌, ◌^◌, ◌<◌, ◌≤◌, List, Bool, true, false, cond, eqb, length, get_or, map, replicate, bit_or, refl, sym, ap, ◌∙◌, arith, ⊎_elim, ◌||◌}
use Rattle.std.specs.Int.{bit_at}
use Rattle.std.specs.Simd.Lanes.{zip2, mask_l, top, chunk}
use Rattle.std.proofs.lemmas.Simd.{zip2_splat, zip2_of_maps, map-map, bit_mask_l, mask_l-mod, length-chunk, get_or-chunk}
use Rattle.std.proofs.lemmas.Bool.{cases_lt}
use Rattle.std.proofs.lemmas.List.{length-map, get_or_past}
use Rattle.std.proofs.Math.ListN.{get_or-map}
use Rattle.memchr.specs.Find.{Passes, is_byte2}

-- a lane of a comparison, all of whose bits are set or none
abbrev equal : ℕ → ℕ → ℕ
equal x y = cond (eqb x y) 255 0

either : (a b : Bool) → top 7 (bit_or (cond a 255 0) (cond b 255 0)) ≡ (a || b)
either true true = refl
either true false = refl
either false true = refl
either false false = refl

-- the top bits of the two comparisons' lanes are the test of each lane
tops_are : (lanes : List ℕ) → length lanes ≡ 32
    → map (top 7) (zip2 bit_or (zip2 equal lanes (replicate 32 10)) (zip2 equal lanes (replicate 32 13))) ≡ map (is_byte2 10 13) lanes
tops_are lanes long =
    ap (map (top 7))
    (zip2_of_maps bit_or (λ x. equal x 10) (λ x. equal x 13) lanes (zip2_splat equal lanes 32 10 long) (zip2_splat equal lanes 32 13 long))
    ∙ map-map (top 7) (λ x. bit_or (equal x 10) (equal x 13)) lanes
    ∙ (λ i. map (λ x. either (eqb x 10) (eqb x 13) i) lanes)

bit_tells : (b : Bool) (bit : ℕ) → bit ≡ cond b 1 0 → (bit ≡ 1) ↔ (b ≡ true)
bit_tells true bit e = (λ h. refl, λ h. e)
bit_tells false bit e = (λ h. absurd (omega (arith, e, h)), λ h. grind (arith, h))

-- a bit of their mask is set exactly where the lane passes the test
pub marks_are : (lanes : List ℕ) (lane : ℕ) → length lanes ≡ 32
    → (bit_at (mask_l (map (top 7) (zip2 bit_or (zip2 equal lanes (replicate 32 10)) (zip2 equal lanes (replicate 32 13)))) % 2 ^ 64) lane ≡ 1)
    ↔ (is_byte2 10 13 (get_or lanes lane 0) ≡ true)
marks_are lanes lane long =
    let bits : List Bool = map (is_byte2 10 13) lanes in
    bit_tells (is_byte2 10 13 (get_or lanes lane 0)) _
    (ap (λ ms. bit_at (mask_l ms % 2 ^ 64) lane) (tops_are lanes long)
    ∙ ap (λ m. bit_at m lane) (mask_l-mod bits 64 (omega (arith, long, length-map lanes (is_byte2 10 13))))
    ∙ bit_mask_l bits lane ∙ ap (λ b. cond b 1 0) (get_or-map (is_byte2 10 13) lanes lane 0))

-- what the marks of the thirty-two bytes from a place say
module _ (bytes : List ℕ) (start marked : ℕ) (room : start + 32 ≤ length bytes)
    (marks : (lane : ℕ) → (bit_at marked lane ≡ 1) ↔ (is_byte2 10 13 (get_or (chunk start 32 bytes) lane 0) ≡ true)) where
  pub marked_within : (lane : ℕ) → bit_at marked lane ≡ 1 → lane < 32
  marked_within lane set =
      ⊎_elim (λ lt. lt)
      (λ ge. let past = get_or_past (chunk start 32 bytes) lane 0 (omega (arith, ge, length-chunk start 32 bytes room)) in
      grind (arith, past, (marks lane).0 set))
      (cases_lt lane 32)

  pub marked_passes : (lane : ℕ) → bit_at marked lane ≡ 1 → Passes (is_byte2 10 13) bytes (start + lane)
  marked_passes lane set =
      ap (is_byte2 10 13) (sym (get_or-chunk start 32 bytes lane 0 (marked_within lane set))) ∙ (marks lane).0 set

  pub unmarked_fails : (place : ℕ) → start ≤ place → place < start + 32 → bit_at marked (place - start) ≡ 0 → Passes (is_byte2 10 13) bytes place → ⊥
  unmarked_fails place low high unset passes =
      let back : start + (place - start) ≡ place = omega arith in
      let here = get_or-chunk start 32 bytes (place - start) 0 (omega arith) ∙ ap (λ k. get_or bytes k 0) back in
      let set = (marks (place - start)).1 (ap (is_byte2 10 13) here ∙ passes) in
      omega (arith, set, unset)

-- The ends of a row.
use Rattle.std.proofs.Common.{◌≡◌, ◌⊎◌, ℕ, ◌+◌, ◌-◌, ◌<◌, ◌≤◌, List, [], length, drop, slice_range, min, refl, sym, ap, ◌∙◌, subst, arith}
use Rattle.std.proofs.lemmas.List.{length-drop, length-take}
use Rattle.excerpt_rows.specs.declared.ends.Edge.TheVariants.{Blank, Dot}
use Rattle.excerpt_rows.specs.Ends.{HasNoCore, IsCore, IsDotted, core_end, core_start, first_of, ink, last_of}

pub ink_is : (row : List ℕ) → ink row ≡ slice_range row (first_of Blank row) (last_of Blank row)
unfolding ink
ink_is row = refl

none_between : (row : List ℕ) (first last : ℕ) → last ≤ first → slice_range row first last ≡ []
none_between row first last less = let e : last - first ≡ 0 = omega arith in rw e refl

-- a row of blanks has no core
pub no_ink : (row : List ℕ) → last_of Blank row ≤ first_of Blank row → HasNoCore row
no_ink row less = λ dotted some.
    let e : ink row ≡ [] = ink_is row ∙ none_between row (first_of Blank row) (last_of Blank row) less in
    let none : last_of Dot (ink row) ≡ 0 = ap (last_of Dot) e in
    omega (arith, some, none)

-- the parts of a row, as the code finds them
pub record IsFound (row found : List ℕ) (first last start end : ℕ) : Type 0 where
  pub first_is : first ≡ first_of Blank row
  pub last_is : last ≡ last_of Blank row
  pub found_is : found ≡ slice_range row first last
  pub start_is : start ≡ first_of Dot found
  pub end_is : end ≡ last_of Dot found

found_ink : (row found : List ℕ) (first last start end : ℕ) → IsFound row found first last start end → found ≡ ink row
found_ink row found first last start end so =
    so.found_is ∙ ap (λ n. slice_range row n last) so.first_is ∙ ap (λ n. slice_range row (first_of Blank row) n) so.last_is ∙ sym (ink_is row)

pub found_start : (row found : List ℕ) (first last start end : ℕ) → IsFound row found first last start end → first + start ≡ core_start row
found_start row found first last start end so =
    let e = found_ink row found first last start end so in
    let s : start ≡ first_of Dot (ink row) = so.start_is ∙ ap (first_of Dot) e in
    omega (arith, s, so.first_is)

pub found_end : (row found : List ℕ) (first last start end : ℕ) → IsFound row found first last start end → first + end ≡ core_end row
found_end row found first last start end so =
    let e = found_ink row found first last start end so in
    let s : end ≡ last_of Dot (ink row) = so.end_is ∙ ap (last_of Dot) e in
    omega (arith, s, so.first_is)

pub no_core : (row found : List ℕ) (first last start end : ℕ) → IsFound row found first last start end → end ≤ start → HasNoCore row
no_core row found first last start end so less = λ dotted some.
    omega (arith, some, found_start row found first last start end so, found_end row found first last start end so, less)

dots_are : (row found : List ℕ) (first last start end : ℕ) → IsFound row found first last start end → IsDotted row ≡ ((3 ≤ start) ⊎ (3 ≤ length found - end))
dots_are row found first last start end so =
    let e = sym (found_ink row found first last start end so) in
    ap (λ (t : List ℕ). (3 ≤ first_of Dot t) ⊎ (3 ≤ length t - last_of Dot t)) e
    ∙ ap (λ n. (3 ≤ n) ⊎ (3 ≤ length found - last_of Dot found)) (sym so.start_is) ∙ ap (λ n. (3 ≤ start) ⊎ (3 ≤ length found - n)) (sym so.end_is)

pub not_dotted : (row found : List ℕ) (first last start end : ℕ) → IsFound row found first last start end → ((3 ≤ start) ⊎ (3 ≤ length found - end) → ⊥) → HasNoCore row
not_dotted row found first last start end so none = λ dotted some.
    none (subst (λ (P : Type 0). P) (dots_are row found first last start end so) dotted)

pub core_is : (row found : List ℕ) (first last start end : ℕ) → IsFound row found first last start end → (3 ≤ start) ⊎ (3 ≤ length found - end) → start < end
    → end ≤ length found → first ≤ last → last ≤ length row → IsCore row (first + start, first + end)
core_is row found first last start end so dotted some within ordered last_within = record {
  dotted = subst (λ (P : Type 0). P) (sym (dots_are row found first last start end so)) dotted;
  start = found_start row found first last start end so;
  end = found_end row found first last start end so;
  some = omega (arith, some);
  within =
      (let size : length found ≡ min (last - first) (length row - first) = ap length so.found_is ∙ length-take (last - first) (drop first row) ∙ ap (λ n. min (last - first) n) (length-drop first row) in
      omega (arith, size, within, ordered, last_within));
}

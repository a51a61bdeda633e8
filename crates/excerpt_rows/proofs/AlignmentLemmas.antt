-- A printed row, laid over a row of the source.
use Rattle.std.proofs.Common.{◌≡◌, ◌≢◌, ◌==◌, ℕ, zero, suc, ◌+◌, ◌-◌, ◌<◌, ◌≤◌, min, List, [], ◌∷◌, ◌++◌, length, drop, take, slice_range, slice_index, slice_get, Option, Some, None, Result, Ok, Err, IfOk, MatchOption, Bool, true, false, MatchBool, refl, sym, ap, ◌∙◌, subst, inl, inr, arith, length-append}
use Rattle.std.specs.List.{list_all}
use Rattle.std.specs.Cmp.Lexicographic.{pointwise}
use Rattle.std.proofs.lemmas.Bool.{cases_lt}
use Rattle.std.proofs.lemmas.Bool.Decides.{Decides-eqb}
use Rattle.std.proofs.lemmas.List.{drop_at, get_or-drop, get_or-take, get_or_append_left, get_or_default, length-drop, length-take}
use Rattle.std.proofs.lemmas.Option.{slice_get_within}
use Rattle.std.proofs.lemmas.Slice.Eq.{slice_eq-Decides, starts_is}
use Rattle.excerpt_rows.specs.declared.alignment.Shift.{Shift}
use Rattle.excerpt_rows.specs.declared.expansion.Rule.{Rule}
use Rattle.excerpt_rows.specs.Ends.{IsCore, core, core_end, core_start, is_blank}
use Rattle.excerpt_rows.specs.Search.{HasNoOnlyPlace, IsOnlyPlace}
use Rattle.excerpt_rows.specs.Expansion.{expanded, is_plain, rules}
use Rattle.excerpt_rows.specs.Alignment.{ColumnsAreRight, FirstLaid, IsOther, IsLaid, IsNoPart, IsNotLaid, IsOfSource, IsPart, IsPrintedBy, IsWhole, NoneLaid, shifted, spare}
use Rattle.excerpt_rows.proofs.ExpansionLemmas.{place_found, plain_is, same_is}

-- ---- the whole text

whole_starts : (printed text row : List ℕ) (n : ℕ) → n ≡ spare printed text → row ≡ drop n printed → (is : IsWhole printed text) → text ≡ row ++ is.rest
whole_starts printed text row n value row_is is =
    sym is.whole ∙ ap (λ (xs : List ℕ). xs ++ is.rest) (sym (row_is ∙ ap (λ k. drop k printed) value))

pub not_whole : (printed text row : List ℕ) (n : ℕ) (starts : Bool) → n ≡ spare printed text → row ≡ drop n printed → starts ≡ pointwise (λ a b. a == b) row (take (length row) text) → starts ≡ false → IsWhole printed text → ⊥
not_whole printed text row n starts value row_is tests is_false is =
    let yes : starts ≡ true = (starts_is Decides-eqb text row starts tests).1 is.rest (whole_starts printed text row n value row_is is) in cc

pub whole_if : (printed text row : List ℕ) (n : ℕ) (starts blank : Bool) → n ≡ spare printed text → row ≡ drop n printed → starts ≡ pointwise (λ a b. a == b) row (take (length row) text) → starts ≡ true
    → blank ≡ list_all is_blank (drop (length row) text) → MatchBool blank (IsWhole printed text) (IsWhole printed text → ⊥)
whole_if printed text row n starts true value row_is tests is_true blank_is =
    let split : text ≡ row ++ drop (length row) text = (starts_is Decides-eqb text row starts tests).0 is_true in
    record {
      rest = drop (length row) text;
      whole = ap (λ (xs : List ℕ). xs ++ drop (length row) text) (sym (row_is ∙ ap (λ k. drop k printed) value)) ∙ sym split;
      blank = sym blank_is;
    }
whole_if printed text row n starts false value row_is tests is_true blank_is = λ is.
    let rest_is : drop (length row) text ≡ is.rest = ap (drop (length row)) (whole_starts printed text row n value row_is is) ∙ drop_at row is.rest (length row) refl in
    let yes : list_all is_blank (drop (length row) text) ≡ true = ap (list_all is_blank) rest_is ∙ is.blank in
    cc

-- ---- a part of it

core_from : (printed : List ℕ) (start end : ℕ) → IsCore printed (start, end) → slice_range printed start end ≡ core printed
core_from printed start end so = ap (λ n. slice_range printed n end) so.start ∙ ap (λ n. slice_range printed (core_start printed) n) so.end

pub no_part : (printed text : List ℕ) (start end : ℕ) → IsCore printed (start, end) → HasNoOnlyPlace (slice_range printed start end) text → IsNoPart printed text
no_part printed text start end so none = λ shift is.
    none shift.skipped (subst (λ (c : List ℕ). IsOnlyPlace c text shift.skipped) (sym (core_from printed start end so)) is.place)

pub part_is : (printed text : List ℕ) (start end skipped : ℕ) (shift : Shift) → IsCore printed (start, end) → IsOnlyPlace (slice_range printed start end) text skipped
    → shift.skipped ≡ skipped → shift.lead ≡ start → IsPart printed text shift
part_is printed text start end skipped shift so place skipped_is lead_is = record {
  dotted = so.dotted;
  some = omega (arith, so.some, so.start, so.end);
  place = subst (λ n. IsOnlyPlace (core printed) text n) (sym skipped_is) (subst (λ (c : List ℕ). IsOnlyPlace c text skipped) (core_from printed start end so) place);
  begun = lead_is ∙ so.start;
}

-- ---- one or the other

pub not_laid : (printed text : List ℕ) → (IsWhole printed text → ⊥) → IsNoPart printed text → IsNotLaid printed text
not_laid printed text whole part = λ shift laid. elim laid [ inl is ↦ whole is.0 | inr is ↦ part shift is.1 ]

-- ---- the first rule

pub none_more : (rules : List Rule) (k : ℕ) (rule : Rule) (printed source : List ℕ) → slice_get rules k ≡ Some rule → IsNotLaid printed (expanded rule source) → NoneLaid rules k printed source → NoneLaid rules (k + 1) printed source
none_more rules k rule printed source here none before = λ j other less there.
    elim (cases_lt j k) [
      | inl earlier ↦ before j other earlier there
      | inr same ↦
          (let e : j ≡ k = omega (arith, same, less) in
          let same_rule : Some rule ≡ Some other = sym here ∙ ap (slice_get rules) (sym e) ∙ there in
          let is : rule ≡ other = cc in
          subst (λ (r : Rule). IsNotLaid printed (expanded r source)) is none)
    ]

-- ---- rows that each rule prints as they are

first_get : (rules : List Rule) (k : ℕ) (rule : Rule) → k < 1 → slice_get rules k ≡ Some rule → slice_get (take 1 rules) k ≡ Some rule
first_get [] k rule first there = there
first_get (r ∷ rules) zero rule first there = there
first_get (r ∷ rules) (suc k) rule first there = absurd (omega (arith, first))

pub none_there : (k : ℕ) (rule : Rule) → slice_get [] k ≡ Some rule → ⊥
none_there k rule there = cc

get_first : (rules : List Rule) (k : ℕ) (rule : Rule) → slice_get (take 1 rules) k ≡ Some rule → (k ≡ 0) × (slice_get rules k ≡ Some rule)
get_first [] k rule there = (absurd (none_there k rule there), there)
get_first (r ∷ rules) zero rule there = (refl, there)
get_first (r ∷ rules) (suc k) rule there = absurd (none_there k rule there)

some_first : (rules : List Rule) → 0 < length rules → (rule : Rule) × (slice_get (take 1 rules) 0 ≡ Some rule)
some_first [] some = absurd (omega (arith, some))
some_first (r ∷ rules) some = (r, refl)

pub plain_none : (rules : List Rule) (printed source : List ℕ) → 0 < length rules → is_plain source ≡ true → NoneLaid (take 1 rules) (length (take 1 rules)) printed source → NoneLaid rules (length rules) printed source
plain_none rules printed source some plain none = λ k rule within there shift laid.
    let first = some_first rules some in
    let same : expanded rule source ≡ expanded first.0 source = plain_is rule source plain ∙ sym (plain_is first.0 source plain) in
    none 0 first.0 (slice_get_within (take 1 rules) 0 first.0 first.1) first.1 shift (subst (λ (text : List ℕ). IsLaid printed text shift) same laid)

pub plain_first : (rules : List Rule) (printed source : List ℕ) (rule : Rule) (shift : Shift) → FirstLaid (take 1 rules) printed source rule shift → FirstLaid rules printed source rule shift
plain_first rules printed source rule shift first =
    let is = get_first rules first.at rule first.here in
    record {
      at = first.at;
      here = is.1;
      laid = first.laid;
      before = λ k other less there. absurd (omega (arith, is.0, less));
    }

pub differs : (printed source : List ℕ) (same : Bool) → same ≡ pointwise (λ a b. a == b) printed source → same ≡ false → printed ≢ source
differs printed source same tests is_false = λ e. (let yes : same ≡ true = (slice_eq-Decides Decides-eqb printed source same tests).1 e in cc)

pub plain_found : {E : Type 0} (result : Result (Option (Rule × Shift)) E) (rules : List Rule) (printed source : List ℕ) → 0 < length rules → is_plain source ≡ true → printed ≢ source
    → IfOk result (λ found. MatchOption found (NoneLaid (take 1 rules) (length (take 1 rules)) printed source) (λ first. FirstLaid (take 1 rules) printed source first.0 first.1))
    → IfOk result (λ found. MatchOption found (IsOther rules printed source) (λ by. IsPrintedBy rules printed source by.0 by.1))
plain_found (Err e) rules printed source some plain other so = tt
plain_found (Ok None) rules printed source some plain other so = record { differs = other; none = plain_none rules printed source some plain so }
plain_found (Ok (Some by)) rules printed source some plain other so = inr (other, plain_first rules printed source by.0 by.1 so)

-- ---- columns

part_at : (xs : List ℕ) (a b k : ℕ) → a ≤ k → k < b → slice_index (slice_range xs a b) (k - a) ≡ slice_index xs k
part_at xs a b k low high =
    let e : a + (k - a) ≡ k = omega arith in
    get_or-take (b - a) (drop a xs) (k - a) 0 (omega arith) ∙ get_or-drop a xs (k - a) 0 ∙ ap (slice_index xs) e

whole_column : (printed text : List ℕ) (shift : Shift) (column : ℕ) → IsWhole printed text → shift.skipped ≡ 0 → shift.lead ≡ spare printed text → shift.lead ≤ column → column < length printed
    → (shifted shift column < length text) × (slice_index printed column ≡ slice_index text (shifted shift column))
whole_column printed text shift column is skipped lead low high =
    let row = drop (spare printed text) printed in
    let at : shifted shift column ≡ column - spare printed text = omega (arith, skipped, lead) in
    let size : length row ≡ length printed - spare printed text = length-drop (spare printed text) printed in
    let inside : column - spare printed text < length row = omega (arith, size, lead, low, high) in
    let e : spare printed text + (column - spare printed text) ≡ column = omega (arith, lead, low) in
    let total : length text ≡ length row + length is.rest = ap length (sym is.whole) ∙ length-append row is.rest in (
      omega (arith, at, inside, total),
      ap (slice_index printed) (sym e) ∙ sym (get_or-drop (spare printed text) printed (column - spare printed text) 0)
          ∙ sym (get_or_append_left row is.rest 0 (column - spare printed text) inside) ∙ ap (λ (t : List ℕ). slice_index t (column - spare printed text)) is.whole ∙ ap (slice_index text) (sym at),
    )

part_column : (printed text : List ℕ) (shift : Shift) (column : ℕ) → IsPart printed text shift → shift.lead ≤ column → column < length printed → column < core_end printed
    → (shifted shift column < length text) × (slice_index printed column ≡ slice_index text (shifted shift column))
part_column printed text shift column is low within high =
    let from = core_start printed in
    let low_there : from ≤ column = omega (arith, is.begun, low) in
    let size : length (core printed) ≡ min (core_end printed - from) (length printed - from) = length-take (core_end printed - from) (drop from printed) ∙ ap (λ n. min (core_end printed - from) n) (length-drop from printed) in
    let inside : column - from < length (core printed) = omega (arith, size, low_there, within, high) in
    let at : shift.skipped + (column - from) ≡ shifted shift column = omega (arith, is.begun, low_there) in (
      omega (arith, at, inside, is.place.here.within),
      sym (part_at printed from (core_end printed) column low_there high) ∙ is.place.here.same (column - from) inside ∙ ap (slice_index text) at,
    )

laid_column : (printed text : List ℕ) (shift : Shift) (column : ℕ) → IsLaid printed text shift → IsOfSource printed shift column
    → (shifted shift column < length text) × (slice_index printed column ≡ slice_index text (shifted shift column))
laid_column printed text shift column laid of =
    elim laid [
      | inl whole ↦ whole_column printed text shift column whole.0 whole.1 whole.2 of.after of.within
      | inr part ↦ part_column printed text shift column part.1 of.after of.within (of.uncut part.1.dotted)
    ]

by_column : (rules : List Rule) (printed source : List ℕ) (rule : Rule) (shift : Shift) (column : ℕ) → IsPrintedBy rules printed source rule shift → IsOfSource printed shift column
    → (shifted shift column < length (expanded rule source)) × (slice_index printed column ≡ slice_index (expanded rule source) (shifted shift column))
by_column rules printed source rule shift column by of =
    elim by [
      | inl same ↦
          (let text : expanded rule source ≡ printed = ap (λ (r : Rule). expanded r source) same.1 ∙ same_is source ∙ sym same.0 in
          let at : column ≡ shifted shift column = omega (arith, same.2, same.3) in
          (omega (arith, ap length text, at, of.within), ap (slice_index printed) at ∙ ap (λ (t : List ℕ). slice_index t (shifted shift column)) (sym text)))
      | inr first ↦ laid_column printed (expanded rule source) shift column first.1.laid of
    ]

pub columns_are_right : ColumnsAreRight
columns_are_right printed source a column is of =
    let here = by_column rules printed source a.rule a.shift column is.rule of in
    let found = place_found a.rule source (shifted a.shift column) here.0 in
    let within : shifted a.shift column < length a.places.items = omega (arith, is.places.count, here.0) in (
      found.0,
      record {
        there = found.1.0;
        offset = get_or_default a.places.items (shifted a.shift column) a.end 0 within ∙ is.places.each found.0 (shifted a.shift column) found.1.0 found.1.1 found.1.2;
        from = found.1.1;
        to = found.1.2;
        same = here.1;
      },
    )

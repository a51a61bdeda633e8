-- The alignment as a value, from what is known of it.
use Rattle.std.proofs.Common.{◌≡◌, ◌⊎◌, ℕ, zero, suc, ◌+◌, ◌-◌, ◌<◌, ◌≤◌, ◌==◌, ◌&&◌, nat_le, min, if◌then◌else◌, Bool, true, false, List, [], ◌∷◌, ◌++◌, length, drop, take, replicate, slice_get, slice_index, slice_index_or, Option, Some, None, is_some, MatchOption, refl, sym, ap, ◌∙◌, subst, inl, inr, arith, append-nil, append_assoc, length-append}
use Rattle.std.specs.List.{list_all}
use Rattle.std.specs.Option.{option_map, option_or}
use Rattle.std.specs.Char.{len_utf8}
use Rattle.std.specs.Cmp.Lexicographic.{pointwise}
use Rattle.std.proofs.lemmas.Bool.{and_from, and_parts, cases_lt, false_from_ne_true, le-leb, leb-true, lt-ltb, ltb-true, or_cases, or_left, or_right}
use Rattle.std.proofs.lemmas.Bool.Decides.{Decides-eqb}
use Rattle.std.proofs.lemmas.List.{drop_at, ext_get_or, get_or_default, get_or_past, length-drop, length-take, take_all}
use Rattle.std.proofs.lemmas.List.Sums.{prefix_len-le-length}
use Rattle.std.proofs.lemmas.Slice.Eq.{slice_eq-Decides, starts_is}
use Rattle.excerpt_rows.specs.declared.alignment.TheConstants.{LIMIT}
use Rattle.excerpt_rows.specs.declared.alignment.Alignment.{Alignment}
use Rattle.excerpt_rows.specs.declared.alignment.Shift.{Shift}
use Rattle.excerpt_rows.specs.declared.ends.Edge.TheVariants.{Blank, Dot}
use Rattle.excerpt_rows.specs.declared.expansion.Rule.{Rule}
use Rattle.excerpt_rows.specs.declared.expansion.Rule.TheVariants.{Same}
use Rattle.excerpt_rows.specs.Aligned.{AlignedParts, OffsetsAreBoundaries, OffsetsAreWithin, OffsetsAscend, offset_in, aligned_parts, alignment_of, begins_with, cut_shift, first_by, is_begun_by, is_cut, only_one, parts_by, places_after, places_from, printed_by, shift_over, whole_shift}
use Rattle.excerpt_rows.specs.Hunk.{IsAligned}
use Rattle.excerpt_rows.specs.Alignment.{FirstLaid, HasNoAlignment, IsAlignment, IsLaid, IsNotLaid, IsOther, IsPrintedBy, IsWhole, NoneLaid, shifted, spare}
use Rattle.excerpt_rows.specs.Ends.{IsDotted, core, core_end, core_start, first_of, ink, is_blank, is_in, last_of}
use Rattle.excerpt_rows.specs.Expansion.{ArePlaces, bytes_of, expanded, printed_len, rules, shown}
use Rattle.excerpt_rows.specs.Search.{HasNoOnlyPlace, IsOnlyPlace}
use Rattle.excerpt_rows.proofs.AlignmentLemmas.{none_there, not_laid}
use Rattle.excerpt_rows.proofs.EndLemmas.{ink_is}
use Rattle.excerpt_rows.proofs.ExpansionLemmas.{PlacesSoFar, bytes_more, expanded_more, place_found, places_begin, places_end, places_more}
use Rattle.excerpt_rows.proofs.PlaceLemmas.{first_is, only_is}

-- ---- the whole text

whole_told : (printed text : List ℕ) → is_begun_by text (drop (spare printed text) printed) ≡ true → IsWhole printed text
whole_told printed text holds =
    let row = drop (spare printed text) printed in
    record {
      rest = drop (length row) text;
      whole = sym ((starts_is Decides-eqb text row (begins_with text row) refl).0 (and_parts _ _ holds).0);
      blank = (and_parts _ _ holds).1;
    }

whole_is : (printed text : List ℕ) → IsWhole printed text → is_begun_by text (drop (spare printed text) printed) ≡ true
whole_is printed text is =
    let row = drop (spare printed text) printed in
    let begins : begins_with text row ≡ true = (starts_is Decides-eqb text row (begins_with text row) refl).1 is.rest (sym is.whole) in
    let rest_is : drop (length row) text ≡ is.rest = ap (drop (length row)) (sym is.whole) ∙ drop_at row is.rest (length row) refl in
    and_from _ _ begins (ap (list_all is_blank) rest_is ∙ is.blank)

-- ---- a cut row

cut_told : (row : List ℕ) → is_cut row ≡ true → IsDotted row × (core_start row < core_end row)
cut_told row holds = (
  elim (or_cases _ _ (and_parts _ _ holds).0) [
    | inl before ↦ inl (leb-true 3 (first_of Dot (ink row)) before)
    | inr after ↦ inr (leb-true 3 (length (ink row) - last_of Dot (ink row)) after)
  ],
  ltb-true (core_start row) (core_end row) (and_parts _ _ holds).1,
)

cut_is : (row : List ℕ) → IsDotted row → core_start row < core_end row → is_cut row ≡ true
cut_is row dotted some =
    and_from _ _
    (elim dotted [
      | inl before ↦ or_left _ _ (le-leb 3 (first_of Dot (ink row)) before)
      | inr after ↦ or_right _ _ (le-leb 3 (length (ink row) - last_of Dot (ink row)) after)
    ]) (lt-ltb (core_start row) (core_end row) some)

core_some : (row : List ℕ) → core_start row < core_end row → 0 < length (core row)
core_some row some =
    let first = first_of Blank row in
    let size : length (ink row) ≡ min (last_of Blank row - first) (length row - first) =
    ap length (ink_is row) ∙ length-take (last_of Blank row - first) (drop first row) ∙ ap (λ n. min (last_of Blank row - first) n) (length-drop first row) in
    let core_size : length (core row) ≡ min (core_end row - core_start row) (length row - core_start row) =
    length-take (core_end row - core_start row) (drop (core_start row) row) ∙ ap (λ n. min (core_end row - core_start row) n) (length-drop (core_start row) row) in
    omega (arith, size, core_size, some, prefix_len-le-length (is_in Blank) row)

-- ---- where a printed row is in a text

shift_by : (printed text : List ℕ) (whole cut : Bool) (found : Option ℕ) → is_begun_by text (drop (spare printed text) printed) ≡ whole → is_cut printed ≡ cut
    → (cut ≡ true → MatchOption found (HasNoOnlyPlace (core printed) text) (IsOnlyPlace (core printed) text))
    → MatchOption (if whole then Some (whole_shift printed text) else if cut then option_map (cut_shift printed) found else None) (IsNotLaid printed text) (IsLaid printed text)
shift_by printed text true cut found w c f = inl (whole_told printed text w, refl, refl)
shift_by printed text false true None w c f = not_laid printed text (λ is. (let holds = whole_is printed text is in cc)) (λ shift part. f refl shift.skipped part.place)
shift_by printed text false true (Some place) w c f = inr (
  λ is. (let holds = whole_is printed text is in cc),
  record { dotted = (cut_told printed c).0; some = (cut_told printed c).1; place = f refl; begun = refl },
)
shift_by printed text false false found w c f =
    not_laid printed text (λ is. (let holds = whole_is printed text is in cc)) (λ shift part. (let holds = cut_is printed part.dotted part.some in cc))

shift_is : (printed text : List ℕ) → MatchOption (shift_over printed text) (IsNotLaid printed text) (IsLaid printed text)
unfolding shift_over
shift_is printed text =
    shift_by printed text (is_begun_by text (drop (spare printed text) printed)) (is_cut printed) (only_one (places_from (core printed) 0 text)) refl refl
    (λ cut. only_is (core printed) text (core_some printed (cut_told printed cut).1))

abbrev shift_of : ℕ → ℕ → Shift
shift_of skipped lead = record { skipped = skipped; lead = lead }

shift_same : (a b : Shift) → a.skipped ≡ b.skipped → a.lead ≡ b.lead → a ≡ b
shift_same a b skipped lead = ap (λ n. shift_of n a.lead) skipped ∙ ap (shift_of b.skipped) lead

laid_same : (printed text : List ℕ) (a b : Shift) → IsLaid printed text a → IsLaid printed text b → a ≡ b
laid_same printed text a b is_a is_b =
    elim is_a [
      | inl whole_a ↦ elim is_b [
        | inl whole_b ↦ shift_same a b (whole_a.1 ∙ sym whole_b.1) (whole_a.2 ∙ sym whole_b.2)
        | inr part_b ↦ absurd (part_b.0 whole_a.0)
      ]
      | inr part_a ↦ elim is_b [
        | inl whole_b ↦ absurd (part_a.0 whole_b.0)
        | inr part_b ↦ shift_same a b (part_b.1.place.only a.skipped part_a.1.place.here) (part_a.1.begun ∙ sym part_b.1.begun)
      ]
    ]

laid_by : (printed text : List ℕ) (found : Option Shift) (shift : Shift) → MatchOption found (IsNotLaid printed text) (IsLaid printed text) → IsLaid printed text shift → found ≡ Some shift
laid_by printed text None shift so is = absurd (so shift is)
laid_by printed text (Some other) shift so is = ap Some (laid_same printed text other shift so is)

none_by : (printed text : List ℕ) (found : Option Shift) → MatchOption found (IsNotLaid printed text) (IsLaid printed text) → IsNotLaid printed text → found ≡ None
none_by printed text None so none = refl
none_by printed text (Some other) so none = absurd (none other so)

-- ---- the first rule

first_at : (table : List Rule) (at : ℕ) (printed source : List ℕ) (rule : Rule) (shift : Shift) → slice_get table at ≡ Some rule → IsLaid printed (expanded rule source) shift → NoneLaid table at printed source
    → first_by table printed source ≡ Some (rule, shift)
unfolding first_by
first_at [] at printed source rule shift here laid before = absurd (none_there at rule here)
first_at (r ∷ table) zero printed source rule shift here laid before =
    let same : r ≡ rule = cc in
    let found : shift_over printed (expanded r source) ≡ Some shift =
    laid_by printed (expanded r source) (shift_over printed (expanded r source)) shift (shift_is printed (expanded r source)) (subst (λ (k : Rule). IsLaid printed (expanded k source) shift) (sym same) laid) in
    ap (λ (o : Option Shift). option_or (option_map (λ s. (r, s)) o) (first_by table printed source)) found ∙ ap (λ (k : Rule). Some (k, shift)) same
first_at (r ∷ table) (suc at) printed source rule shift here laid before =
    let none : shift_over printed (expanded r source) ≡ None =
    none_by printed (expanded r source) (shift_over printed (expanded r source)) (shift_is printed (expanded r source)) (before 0 r (omega arith) refl) in
    ap (λ (o : Option Shift). option_or (option_map (λ s. (r, s)) o) (first_by table printed source)) none
    ∙ first_at table at printed source rule shift here laid (λ k other less there. before (suc k) other (omega (arith, less)) there)

none_at : (table : List Rule) (printed source : List ℕ) → NoneLaid table (length table) printed source → first_by table printed source ≡ None
unfolding first_by
none_at [] printed source none = refl
none_at (r ∷ table) printed source none =
    let here : shift_over printed (expanded r source) ≡ None =
    none_by printed (expanded r source) (shift_over printed (expanded r source)) (shift_is printed (expanded r source)) (none 0 r (omega arith) refl) in
    ap (λ (o : Option Shift). option_or (option_map (λ s. (r, s)) o) (first_by table printed source)) here
    ∙ none_at table printed source (λ k other less there. none (suc k) other (omega (arith, less)) there)

by_test : (printed source : List ℕ) (rule : Rule) (shift : Shift) (same : Bool) → pointwise (λ a b. a == b) printed source ≡ same → IsPrintedBy rules printed source rule shift
    → (if same then Some (Same, record { skipped = 0; lead = 0 }) else first_by rules printed source) ≡ Some (rule, shift)
by_test printed source rule shift true test by =
    elim by [
      | inl is ↦ ap (λ (s : Shift). Some (Same, s)) (shift_same (record { skipped = 0; lead = 0 }) shift (sym is.2) (sym is.3)) ∙ ap (λ (r : Rule). Some (r, shift)) (sym is.1)
      | inr first ↦ absurd (first.0 ((slice_eq-Decides Decides-eqb printed source true (sym test)).0 refl))
    ]
by_test printed source rule shift false test by =
    elim by [
      | inl is ↦ (let holds : false ≡ true = (slice_eq-Decides Decides-eqb printed source false (sym test)).1 is.0 in cc)
      | inr first ↦ first_at rules first.1.at printed source rule shift first.1.here first.1.laid first.1.before
    ]

other_test : (printed source : List ℕ) (same : Bool) → pointwise (λ a b. a == b) printed source ≡ same → IsOther rules printed source
    → (if same then Some (Same, record { skipped = 0; lead = 0 }) else first_by rules printed source) ≡ None
other_test printed source true test is = absurd (is.differs ((slice_eq-Decides Decides-eqb printed source true (sym test)).0 refl))
other_test printed source false test is = none_at rules printed source is.none

-- ---- places

same_places : (rule : Rule) (row a b : List ℕ) → ArePlaces rule row a → ArePlaces rule row b → a ≡ b
same_places rule row a b so_a so_b =
    ext_get_or 0 a b (so_a.count ∙ sym so_b.count)
    (λ k within.
    let found = place_found rule row k (omega (arith, within, so_a.count)) in
    so_a.each found.0 k found.1.0 found.1.1 found.1.2 ∙ sym (so_b.each found.0 k found.1.0 found.1.1 found.1.2))

places_go : (rule : Rule) (row rest : List ℕ) (k : ℕ) (text places : List ℕ) (offset : ℕ) → rest ≡ drop k row → PlacesSoFar rule row k text places offset
    → ArePlaces rule row (places ++ places_after rule text offset rest)
unfolding places_after
places_go rule row [] k text places offset is so =
    let past : length row ≤ k = (let e = ap length is in omega (arith, e, length-drop k row)) in
    subst (λ (p : List ℕ). ArePlaces rule row p) (sym (append-nil places)) (places_end rule row k text places offset past so)
places_go rule row (c ∷ cs) k text places offset is so =
    let first = first_is row cs c k is in
    let n = length (shown rule text c) in
    let size : length (text ++ shown rule text c) ≡ length text + n = length-append text (shown rule text c) in
    let kept : take (length (text ++ shown rule text c)) places ≡ places = take_all (length (text ++ shown rule text c)) places (omega (arith, size, so.count)) in
    let added : length (text ++ shown rule text c) - length places ≡ n = omega (arith, size, so.count) in
    let new_is : places ++ replicate n offset ≡ take (length (text ++ shown rule text c)) places ++ replicate (length (text ++ shown rule text c) - length places) offset =
    ap (λ (p : List ℕ). p ++ replicate n offset) (sym kept) ∙ ap (λ m. take (length (text ++ shown rule text c)) places ++ replicate m offset) (sym added) in
    subst (λ (p : List ℕ). ArePlaces rule row p) (append_assoc places (replicate n offset) (places_after rule (text ++ shown rule text c) (offset + len_utf8 c) cs))
    (places_go rule row cs (k + 1) (text ++ shown rule text c) (places ++ replicate n offset) (offset + len_utf8 c) first.2
    (places_more rule row k c text (text ++ shown rule text c) places (places ++ replicate n offset) offset (offset + len_utf8 c) first.0 first.1 refl new_is refl so))

pub after_places : (rule : Rule) (row : List ℕ) → ArePlaces rule row (places_after rule [] 0 row)
after_places rule row = places_go rule row row 0 [] [] 0 refl (places_begin rule row [] [] refl refl)

-- ---- the whole

abbrev parts : Rule → Shift → List ℕ → ℕ → AlignedParts
parts rule shift places end = record { rule = rule; shift = shift; places = places; end = end }

short_is : (printed source : List ℕ) → length printed ≤ LIMIT → length source ≤ LIMIT → (nat_le (length printed) LIMIT && nat_le (length source) LIMIT) ≡ true
short_is printed source a b = and_from _ _ (le-leb (length printed) LIMIT a) (le-leb (length source) LIMIT b)

value_if : (printed source : List ℕ) → length printed ≤ LIMIT → length source ≤ LIMIT → alignment_of printed source ≡ option_map (parts_by source) (printed_by printed source)
unfolding alignment_of
value_if printed source a b = ap (λ (t : Bool). if t then option_map (parts_by source) (printed_by printed source) else None) (short_is printed source a b)

pub value_is : (printed source : List ℕ) (a : Alignment) → IsAlignment printed source a → Some (aligned_parts a) ≡ alignment_of printed source
value_is printed source a is =
    let by : printed_by printed source ≡ Some (a.rule, a.shift) = by_test printed source a.rule a.shift (pointwise (λ x y. x == y) printed source) refl is.rule in
    let places : a.places.items ≡ places_after a.rule [] 0 source = same_places a.rule source a.places.items (places_after a.rule [] 0 source) is.places (after_places a.rule source) in
    ap (λ (p : List ℕ). Some (parts a.rule a.shift p a.end)) places ∙ ap (λ n. Some (parts a.rule a.shift (places_after a.rule [] 0 source) n)) is.end
    ∙ sym (value_if printed source is.printed_short is.source_short ∙ ap (λ (o : Option (Rule × Shift)). option_map (parts_by source) o) by)

pub none_is : (printed source : List ℕ) → length printed ≤ LIMIT → length source ≤ LIMIT → HasNoAlignment printed source → None ≡ alignment_of printed source
none_is printed source a b none =
    let by : printed_by printed source ≡ None = other_test printed source (pointwise (λ x y. x == y) printed source) refl (none a b) in
    sym (value_if printed source a b ∙ ap (λ (o : Option (Rule × Shift)). option_map (parts_by source) o) by)

long_test : (printed source : List ℕ) → (LIMIT < length printed) ⊎ (LIMIT < length source) → (nat_le (length printed) LIMIT && nat_le (length source) LIMIT) ≡ false
long_test printed source long =
    false_from_ne_true (nat_le (length printed) LIMIT && nat_le (length source) LIMIT)
    (λ short.
    let first : length printed ≤ LIMIT = leb-true (length printed) LIMIT (and_parts (nat_le (length printed) LIMIT) (nat_le (length source) LIMIT) short).0 in
    let second : length source ≤ LIMIT = leb-true (length source) LIMIT (and_parts (nat_le (length printed) LIMIT) (nat_le (length source) LIMIT) short).1 in
    elim long [
      | inl more ↦ omega (arith, first, more)
      | inr more ↦ omega (arith, second, more)
    ])

pub long_is : (printed source : List ℕ) → (LIMIT < length printed) ⊎ (LIMIT < length source) → None ≡ alignment_of printed source
unfolding alignment_of
long_is printed source long = sym (ap (λ (t : Bool). if t then option_map (parts_by source) (printed_by printed source) else None) (long_test printed source long))

-- ---- offsets

mapped_from : (source : List ℕ) (found : Option (Rule × Shift)) (a : AlignedParts) → option_map (parts_by source) found ≡ Some a → (by : Rule × Shift) × (parts_by source by ≡ a)
mapped_from source None a is = absurd (no_parts a is)
  where
    no_parts : (a : AlignedParts) → None ≡ Some a → ⊥
    no_parts a is = cc
mapped_from source (Some by) a is = (by, cc)

if_from : (source : List ℕ) (short : Bool) (found : Option (Rule × Shift)) (a : AlignedParts) → (if short then option_map (parts_by source) found else None) ≡ Some a → (by : Rule × Shift) × (parts_by source by ≡ a)
if_from source true found a is = mapped_from source found a is
if_from source false found a is = mapped_from source None a is

parts_from : (printed source : List ℕ) (a : AlignedParts) → alignment_of printed source ≡ Some a → (by : Rule × Shift) × (parts_by source by ≡ a)
unfolding alignment_of
parts_from printed source a is = if_from source (nat_le (length printed) LIMIT && nat_le (length source) LIMIT) (printed_by printed source) a is

-- a value that no step makes smaller
climbs : (f : ℕ → ℕ) (n : ℕ) → ((k : ℕ) → k < n → f k ≤ f (k + 1)) → (a b : ℕ) → a ≤ b → b ≤ n → f a ≤ f b
climbs f n step a zero low high = (let e : a ≡ zero = omega (arith, low) in rw e (omega arith))
climbs f n step a (suc b) low high =
    elim (cases_lt a (suc b)) [
      | inl less ↦
          (let before : f a ≤ f b = climbs f n step a b (omega (arith, less)) (omega (arith, high)) in
          let e : b + 1 ≡ suc b = omega arith in
          let one : f b ≤ f (suc b) = subst (λ k. f b ≤ f k) e (step b (omega (arith, high))) in
          omega (arith, before, one))
      | inr here ↦ (let e : a ≡ suc b = omega (arith, low, here) in rw e (omega arith))
    ]

bytes_climb : (row : List ℕ) (a b : ℕ) → a ≤ b → b ≤ length row → bytes_of (take a row) ≤ bytes_of (take b row)
bytes_climb row = climbs (λ k. bytes_of (take k row)) (length row) (λ k within. omega (arith, bytes_more row k within))

printed_climbs : (rule : Rule) (row : List ℕ) (a b : ℕ) → a ≤ b → b ≤ length row → printed_len rule row a ≤ printed_len rule row b
printed_climbs rule row =
    climbs (printed_len rule row) (length row)
    (λ k within.
    let e = ap length (expanded_more rule row k within) in
    omega (arith, e, length-append (expanded rule (take k row)) (shown rule (expanded rule (take k row)) (slice_index row k))))

-- the offset of a place
record IsPlaced (source : List ℕ) (by : Rule × Shift) (at offset count : ℕ) : Type 0 where
  pub within : count ≤ length source
  pub is : offset ≡ bytes_of (take count source)
  pub from : at < length (expanded by.0 source) → (printed_len by.0 source count ≤ at) × (at < printed_len by.0 source (count + 1)) × (count < length source)
  pub past : length (expanded by.0 source) ≤ at → count ≡ length source

placed : (source : List ℕ) (by : Rule × Shift) (at : ℕ) → (count : ℕ) × IsPlaced source by at (slice_index_or (places_after by.0 [] 0 source) at (bytes_of source)) count
placed source by at =
    let so = after_places by.0 source in
    elim (cases_lt at (length (expanded by.0 source))) [
      | inl inside ↦
          (let found = place_found by.0 source at inside in (
            found.0,
            record {
              within = omega (arith, found.1.0);
              is = get_or_default (places_after by.0 [] 0 source) at (bytes_of source) 0 (omega (arith, so.count, inside)) ∙ so.each found.0 at found.1.0 found.1.1 found.1.2;
              from = λ less. (found.1.1, found.1.2, found.1.0);
              past = λ more. absurd (omega (arith, inside, more));
            },
          ))
      | inr past ↦ (
        length source,
        record {
          within = omega arith;
          is = get_or_past (places_after by.0 [] 0 source) at (bytes_of source) (omega (arith, so.count, past)) ∙ ap bytes_of (sym (take_all (length source) source (omega arith)));
          from = λ less. absurd (omega (arith, less, past));
          past = λ more. refl;
        },
      )
    ]

placed_within : (source : List ℕ) (by : Rule × Shift) (at : ℕ) → slice_index_or (places_after by.0 [] 0 source) at (bytes_of source) ≤ bytes_of source
placed_within source by at =
    let here = placed source by at in
    let all : bytes_of (take (length source) source) ≡ bytes_of source = ap bytes_of (take_all (length source) source (omega arith)) in
    omega (arith, here.1.is, all, bytes_climb source here.0 (length source) here.1.within (omega arith))

counts_ascend : (source : List ℕ) (by : Rule × Shift) (at later x y a b : ℕ) → at ≤ later → IsPlaced source by at x a → IsPlaced source by later y b → a ≤ b
counts_ascend source by at later x y a b less is_a is_b =
    elim (cases_lt later (length (expanded by.0 source))) [
      | inr past ↦ omega (arith, is_a.within, is_b.past past)
      | inl inside ↦
          (let low = is_a.from (omega (arith, less, inside)) in
          let high = is_b.from inside in
          elim (cases_lt b a) [
            | inr fine ↦ fine
            | inl wrong ↦
                (let climb = printed_climbs by.0 source (b + 1) a (omega (arith, wrong)) is_a.within in
                absurd (omega (arith, climb, low.0, high.1, less)))
          ])
    ]

pub boundaries : OffsetsAreBoundaries
boundaries printed source a is column =
    let from = parts_from printed source a is in
    let here = placed source from.0 (shifted from.0.1 column) in
    subst (λ (p : AlignedParts). (count : ℕ) × ((count ≤ length source) × (offset_in p column ≡ bytes_of (take count source)))) from.1 (here.0, (here.1.within, here.1.is))

pub within : OffsetsAreWithin
within printed source a is =
    let from = parts_from printed source a is in
    subst (λ (p : AlignedParts). (p.end ≡ bytes_of source) × ((column : ℕ) → offset_in p column ≤ p.end)) from.1
    (refl, λ column. placed_within source from.0 (shifted from.0.1 column))

pub ascend : OffsetsAscend
ascend printed source a is column later less =
    let from = parts_from printed source a is in
    let here = placed source from.0 (shifted from.0.1 column) in
    let there = placed source from.0 (shifted from.0.1 later) in
    let counts : here.0 ≤ there.0 = counts_ascend source from.0 (shifted from.0.1 column) (shifted from.0.1 later) _ _ here.0 there.0 (omega (arith, less)) here.1 there.1 in
    let climb = bytes_climb source here.0 there.0 counts there.1.within in
    subst (λ (p : AlignedParts). offset_in p column ≤ offset_in p later) from.1 (omega (arith, climb, here.1.is, there.1.is))

-- ---- whether there is one

first_cons : (r : Rule) (table : List Rule) (printed source : List ℕ) (by : Rule × Shift) (here : Option Shift) (rest : Option (Rule × Shift)) → MatchOption here (IsNotLaid printed (expanded r source)) (IsLaid printed (expanded r source))
    → (rest ≡ Some by → FirstLaid table printed source by.0 by.1) → option_or (option_map (λ shift. (r, shift)) here) rest ≡ Some by → FirstLaid (r ∷ table) printed source by.0 by.1
first_cons r table printed source by None rest so later is =
    let found = later is in
    record {
      at = suc found.at;
      here = found.here;
      laid = found.laid;
      before = λ k rule less there. before_by k rule less there found.before;
    }
  where
    before_by : (k : ℕ) (rule : Rule) → k < suc (later is).at → slice_get (r ∷ table) k ≡ Some rule → NoneLaid table (later is).at printed source → IsNotLaid printed (expanded rule source)
    before_by zero rule less there none = (let same : r ≡ rule = cc in subst (λ (x : Rule). IsNotLaid printed (expanded x source)) same so)
    before_by (suc k) rule less there none = none k rule (omega (arith, less)) there
first_cons r table printed source by (Some shift) rest so later is =
    let same : (r, shift) ≡ by = cc in
    record {
      at = 0;
      here = ap (λ (b : Rule × Shift). Some b.0) same;
      laid = subst (λ (b : Rule × Shift). IsLaid printed (expanded b.0 source) b.1) same so;
      before = λ k rule less there. absurd (omega (arith, less));
    }

first_told : (table : List Rule) (printed source : List ℕ) (by : Rule × Shift) → first_by table printed source ≡ Some by → FirstLaid table printed source by.0 by.1
unfolding first_by
first_told [] printed source by is = cc
first_told (r ∷ table) printed source by is =
    first_cons r table printed source by (shift_over printed (expanded r source)) (first_by table printed source) (shift_is printed (expanded r source)) (λ later. first_told table printed source by later) is

printed_told : (printed source : List ℕ) (same : Bool) (by : Rule × Shift) → pointwise (λ a b. a == b) printed source ≡ same
    → (if same then Some (Same, record { skipped = 0; lead = 0 }) else first_by rules printed source) ≡ Some by → IsPrintedBy rules printed source by.0 by.1
printed_told printed source true by test is =
    let found : (Same, shift_of 0 0) ≡ by = cc in
    inl (
      (slice_eq-Decides Decides-eqb printed source true (sym test)).0 refl,
      sym (ap (λ (b : Rule × Shift). b.0) found),
      sym (ap (λ (b : Rule × Shift). b.1.skipped) found),
      sym (ap (λ (b : Rule × Shift). b.1.lead) found),
    )
printed_told printed source false by test is =
    inr (λ e. (let holds : false ≡ true = (slice_eq-Decides Decides-eqb printed source false (sym test)).1 e in cc), first_told rules printed source by is)

aligned_by : (printed source : List ℕ) (short : Bool) (found : Option (Rule × Shift)) → (short ≡ true → (length printed ≤ LIMIT) × (length source ≤ LIMIT)) → printed_by printed source ≡ found
    → is_some (if short then option_map (parts_by source) found else None) ≡ true → IsAligned printed source
aligned_by printed source true None few by is = cc
aligned_by printed source true (Some found) few by is = record {
  printed_short = (few refl).0;
  source_short = (few refl).1;
  rule = found.0;
  shift = found.1;
  by = printed_told printed source (pointwise (λ a b. a == b) printed source) found refl by;
}
aligned_by printed source false found few by is = cc

pub aligned_told : (printed source : List ℕ) → is_some (alignment_of printed source) ≡ true → IsAligned printed source
unfolding alignment_of
aligned_told printed source is =
    aligned_by printed source (nat_le (length printed) LIMIT && nat_le (length source) LIMIT) (printed_by printed source)
    (λ short. (leb-true (length printed) LIMIT (and_parts (nat_le (length printed) LIMIT) (nat_le (length source) LIMIT) short).0, leb-true (length source) LIMIT (and_parts (nat_le (length printed) LIMIT) (nat_le (length source) LIMIT) short).1))
    refl is

pub aligned_is : (printed source : List ℕ) → IsAligned printed source → is_some (alignment_of printed source) ≡ true
aligned_is printed source is =
    let by : printed_by printed source ≡ Some (is.rule, is.shift) = by_test printed source is.rule is.shift (pointwise (λ a b. a == b) printed source) refl is.by in
    ap is_some (value_if printed source is.printed_short is.source_short ∙ ap (λ (o : Option (Rule × Shift)). option_map (parts_by source) o) by)

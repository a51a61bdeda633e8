-- An expansion, one character of the source after another.
use Rattle.std.proofs.Common.{OnOk, Result, Ok, Err, drop, zero, suc, not, ◌&&◌, append-nil, ◌≡◌, ℕ, ◌+◌, ◌-◌, ◌*◌, ◌<◌, ◌≤◌, ◌==◌, if◌then◌else◌, Bool, true, false, List, [], ◌∷◌, ◌++◌, length, take, replicate, slice_index, refl, sym, ap, ◌∙◌, subst, inl, inr, arith, append_assoc, length-append}
use Rattle.std.proofs.lemmas.Bool.{and_parts, cases_lt}
use Rattle.std.proofs.lemmas.Bool.Decides.{nat_tests}
use Rattle.std.proofs.lemmas.List.{drop_at, take_all, take_more, take_rest, length-replicate, get_or_append_left, get_or-append_right, get_or_at, get_or-replicate, length-take-le}
use Rattle.std.proofs.lemmas.List.Sums.{sum_by-append}
use Rattle.std.specs.Char.{len_utf8}
use Rattle.unicode_width.proofs.Rules.{width_or_zero-le}
use Rattle.excerpt_rows.specs.declared.expansion.Hidden.{Hidden}
use Rattle.excerpt_rows.specs.declared.expansion.Hidden.TheVariants.{Dropped, Pictured, Coded, Kept}
use Rattle.excerpt_rows.specs.declared.expansion.Tabs.{Tabs}
use Rattle.excerpt_rows.specs.declared.expansion.Tabs.TheVariants.{Stops8, Blanks4, Blanks1, Blanks2, Stops4, ByteStops8}
use Rattle.excerpt_rows.specs.declared.expansion.Rule.{Rule}
use Rattle.excerpt_rows.specs.declared.expansion.Rule.TheVariants.{Same, Expanded}
use Rattle.excerpt_rows.specs.Expansion.{ArePlaces, bytes_of, cells_of, code_of, digits_of, expanded, expanded_after, hidden_as, is_as_is, is_hidden, is_plain, printed_len, shown, tab_len, width_of}

pub cells_append : (xs ys : List ℕ) → cells_of (xs ++ ys) ≡ cells_of xs + cells_of ys
unfolding cells_of
cells_append xs ys = sum_by-append width_of xs ys

pub bytes_append : (xs ys : List ℕ) → bytes_of (xs ++ ys) ≡ bytes_of xs + bytes_of ys
unfolding bytes_of
bytes_append xs ys = sum_by-append len_utf8 xs ys

pub cells_one : (c : ℕ) → cells_of (c ∷ []) ≡ width_of c
unfolding cells_of
cells_one c = omega arith

pub bytes_one : (c : ℕ) → bytes_of (c ∷ []) ≡ len_utf8 c
unfolding bytes_of
bytes_one c = omega arith

pub cells_none : cells_of [] ≡ 0
unfolding cells_of
cells_none = refl

pub bytes_none : bytes_of [] ≡ 0
unfolding bytes_of
bytes_none = refl

pub cells_more : (row : List ℕ) (k : ℕ) → k < length row → cells_of (take (k + 1) row) ≡ cells_of (take k row) + width_of (slice_index row k)
cells_more row k within = ap cells_of (take_more row k 0 within) ∙ cells_append (take k row) (slice_index row k ∷ []) ∙ ap (λ n. cells_of (take k row) + n) (cells_one (slice_index row k))

pub bytes_more : (row : List ℕ) (k : ℕ) → k < length row → bytes_of (take (k + 1) row) ≡ bytes_of (take k row) + len_utf8 (slice_index row k)
bytes_more row k within = ap bytes_of (take_more row k 0 within) ∙ bytes_append (take k row) (slice_index row k ∷ []) ∙ ap (λ n. bytes_of (take k row) + n) (bytes_one (slice_index row k))

len_few : (c : ℕ) → len_utf8 c ≤ 4
len_few c = grind (arith, nat_tests)

pub bytes_few : (text : List ℕ) → bytes_of text ≤ length text * 4
unfolding bytes_of
bytes_few [] = omega arith
bytes_few (c ∷ cs) = (let e = bytes_append (c ∷ []) cs in omega (arith, e, bytes_one c, len_few c, bytes_few cs))

pub cells_few : (text : List ℕ) → cells_of text ≤ length text * 3
unfolding cells_of
cells_few [] = omega arith
cells_few (c ∷ cs) = (let e = cells_append (c ∷ []) cs in omega (arith, e, cells_one c, width_or_zero-le false c, cells_few cs))

-- ---- what one character is printed as

tab_few : (tabs : Tabs) (cells bytes : ℕ) → tab_len tabs cells bytes ≤ 8
tab_few Stops8 cells bytes = omega arith
tab_few Blanks4 cells bytes = omega arith
tab_few Blanks1 cells bytes = omega arith
tab_few Blanks2 cells bytes = omega arith
tab_few Stops4 cells bytes = omega arith
tab_few ByteStops8 cells bytes = omega arith

digits_few : (first second : Bool) (a b : ℕ) (xs : List ℕ) → length xs ≡ 4 → length (if first then xs else if second then a ∷ xs else b ∷ a ∷ xs) ≤ 6
digits_few true second a b xs four = omega (arith, four)
digits_few false true a b xs four = omega (arith, four)
digits_few false false a b xs four = omega (arith, four)

hidden_few : (hidden : Hidden) (c : ℕ) → length (hidden_as hidden c) ≤ 10
unfolding code_of
hidden_few Dropped c = omega arith
hidden_few Pictured c = omega arith
hidden_few Coded c = grind (arith, nat_tests, length-append (digits_of c) (0x3E ∷ []))
hidden_few Kept c = omega arith

shown_by : (tab hidden : Bool) (blanks xs : List ℕ) (c : ℕ) → length blanks ≤ 10 → length xs ≤ 10 → length (if tab then blanks else if hidden then xs else c ∷ []) ≤ 10
shown_by true hidden blanks xs c few few_xs = few
shown_by false true blanks xs c few few_xs = few_xs
shown_by false false blanks xs c few few_xs = omega arith

pub shown_few : (rule : Rule) (text : List ℕ) (c : ℕ) → length (shown rule text c) ≤ 10
shown_few Same text c = omega arith
shown_few (Expanded tabs hidden) text c =
    shown_by (c == 0x09) (is_hidden c) (replicate (tab_len tabs (cells_of text) (bytes_of text)) 0x20) (hidden_as hidden c) c
    (omega (arith, length-replicate {A = ℕ} (tab_len tabs (cells_of text) (bytes_of text)) 0x20, tab_few tabs (cells_of text) (bytes_of text))) (hidden_few hidden c)

-- ---- one character more

expanded_push : (rule : Rule) (text row : List ℕ) (c : ℕ) → expanded_after rule text (row ++ c ∷ []) ≡ expanded_after rule text row ++ shown rule (expanded_after rule text row) c
unfolding expanded_after
expanded_push rule text [] c = refl
expanded_push rule text (d ∷ row) c = expanded_push rule (text ++ shown rule text d) row c

pub expanded_none : (rule : Rule) → expanded rule [] ≡ []
unfolding expanded_after
expanded_none rule = refl

pub expanded_more : (rule : Rule) (row : List ℕ) (k : ℕ) → k < length row → expanded rule (take (k + 1) row) ≡ expanded rule (take k row) ++ shown rule (expanded rule (take k row)) (slice_index row k)
expanded_more rule row k within = ap (expanded rule) (take_more row k 0 within) ∙ expanded_push rule [] (take k row) (slice_index row k)

-- ---- places

-- the places of what is printed of the first `k` characters
pub record PlacesSoFar (rule : Rule) (row : List ℕ) (k : ℕ) (text places : List ℕ) (offset : ℕ) : Type 0 where
  pub is : text ≡ expanded rule (take k row)
  pub count : length places ≡ length text
  pub below : (j : ℕ) → j < k → printed_len rule row (j + 1) ≤ length text
  pub each : (j at : ℕ) → j < k → printed_len rule row j ≤ at → at < printed_len rule row (j + 1) → slice_index places at ≡ bytes_of (take j row)
  pub offset_is : offset ≡ bytes_of (take k row)

pub places_begin : (rule : Rule) (row text places : List ℕ) → text ≡ [] → places ≡ [] → PlacesSoFar rule row 0 text places 0
places_begin rule row text places none none_there = record {
  is = none ∙ sym (expanded_none rule);
  count = rw (none, none_there) refl;
  below = λ j less. absurd (omega (arith, less));
  each = λ j at less. absurd (omega (arith, less));
  offset_is = sym bytes_none;
}

pub places_more : (rule : Rule) (row : List ℕ) (k c : ℕ) (old_text new_text old new : List ℕ) (offset next : ℕ) → k < length row → c ≡ slice_index row k
    → new_text ≡ old_text ++ shown rule old_text c → new ≡ take (length new_text) old ++ replicate (length new_text - length old) offset → next ≡ offset + len_utf8 c
    → PlacesSoFar rule row k old_text old offset → PlacesSoFar rule row (k + 1) new_text new next
places_more rule row k c old_text new_text old new offset next within is_c text_is new_is next_is so =
    let size : length new_text ≡ length old_text + length (shown rule old_text c) = ap length text_is ∙ length-append old_text (shown rule old_text c) in
    let kept : new ≡ old ++ replicate (length new_text - length old) offset =
    new_is ∙ ap (λ (xs : List ℕ). xs ++ replicate (length new_text - length old) offset) (take_all (length new_text) old (omega (arith, size, so.count))) in
    let text_more : new_text ≡ expanded rule (take (k + 1) row) =
    text_is ∙ ap (λ (t : List ℕ). t ++ shown rule t c) so.is ∙ ap (λ d. expanded rule (take k row) ++ shown rule (expanded rule (take k row)) d) is_c ∙ sym (expanded_more rule row k within) in
    record {
      is = text_more;
      count = ap length kept ∙ length-append old (replicate (length new_text - length old) offset) ∙ omega (arith, length-replicate {A = ℕ} (length new_text - length old) offset, size, so.count);
      below = λ j less.
          elim (cases_lt j k) [
            | inl before ↦ omega (arith, so.below j before, size)
            | inr here ↦ (let e : j ≡ k = omega (arith, here, less) in rw e (omega (arith, ap length text_more)))
          ];
      each = λ j at less low high.
          elim (cases_lt j k) [
            | inl before ↦
                (let there : at < length old = omega (arith, so.below j before, so.count, high) in
                ap (λ (xs : List ℕ). slice_index xs at) kept ∙ get_or_append_left old (replicate (length new_text - length old) offset) 0 at there ∙ so.each j at before low high)
            | inr here ↦
                (let e : j ≡ k = omega (arith, here, less) in
                let low_here : printed_len rule row k ≤ at = subst (λ n. printed_len rule row n ≤ at) e low in
                let high_here : at < printed_len rule row (k + 1) = subst (λ n. at < printed_len rule row (n + 1)) e high in
                let from : length old ≤ at = omega (arith, low_here, so.count, ap length so.is) in
                let inside : at - length old < length new_text - length old = omega (arith, high_here, ap length text_more, from) in
                ap (λ (xs : List ℕ). slice_index xs at) kept ∙ get_or-append_right old (replicate (length new_text - length old) offset) (length old) at 0 refl from
                ∙ get_or-replicate (length new_text - length old) (at - length old) offset 0 inside ∙ so.offset_is ∙ ap (λ n. bytes_of (take n row)) (sym e))
          ];
      offset_is = next_is ∙ ap (λ n. n + len_utf8 c) so.offset_is ∙ ap (λ d. bytes_of (take k row) + len_utf8 d) is_c ∙ sym (bytes_more row k within);
    }

pub places_end : (rule : Rule) (row : List ℕ) (k : ℕ) (text places : List ℕ) (offset : ℕ) → length row ≤ k → PlacesSoFar rule row k text places offset → ArePlaces rule row places
places_end rule row k text places offset past so = record {
  count = so.count ∙ ap length (so.is ∙ ap (expanded rule) (take_all k row past));
  each = λ j at within low high. so.each j at (omega (arith, within, past)) low high;
}

-- ---- the steps of the code

pub code_is : {E : Type 0} (result : Result (Unit {0}) E) (old opened digits closed : List ℕ) (c : ℕ) → opened ≡ old ++ 0x3C ∷ 0x55 ∷ 0x2B ∷ [] → digits ≡ opened ++ digits_of c
    → OnOk result (closed ≡ digits ++ 0x3E ∷ []) → OnOk result (closed ≡ old ++ code_of c)
unfolding code_of
code_is (Ok u) old opened digits closed c opened_is digits_is closed_is =
    closed_is ∙ ap (λ (xs : List ℕ). xs ++ 0x3E ∷ []) (digits_is ∙ ap (λ (xs : List ℕ). xs ++ digits_of c) opened_is)
    ∙ simp append_assoc
code_is (Err e) old opened digits closed c opened_is digits_is closed_is = tt

pub new_part : (old new xs : List ℕ) (n : ℕ) → n ≡ length old → new ≡ old ++ xs → take (length new - n) (drop n new) ≡ xs
new_part old new xs n size is = take_rest new n ∙ ap (drop n) is ∙ drop_at old xs n (sym size)

pub resized : (old new text : List ℕ) (n m offset : ℕ) → new ≡ take n old ++ replicate (n - m) offset → n ≡ length text → m ≡ length old → new ≡ take (length text) old ++ replicate (length text - length old) offset
resized old new text n m offset is text_len old_len =
    is ∙ ap (λ k. take k old ++ replicate (k - m) offset) text_len ∙ ap (λ k. take (length text) old ++ replicate (length text - k) offset) old_len

-- ---- rows that each rule prints as they are

as_is_by : (tab hidden : Bool) (blanks xs : List ℕ) (c : ℕ) → (not tab && not hidden) ≡ true → (if tab then blanks else if hidden then xs else c ∷ []) ≡ c ∷ []
as_is_by true hidden blanks xs c is = cc
as_is_by false true blanks xs c is = cc
as_is_by false false blanks xs c is = refl

as_is : (rule : Rule) (text : List ℕ) (c : ℕ) → is_as_is c ≡ true → shown rule text c ≡ c ∷ []
as_is Same text c is = refl
as_is (Expanded tabs hidden) text c is = as_is_by (c == 0x09) (is_hidden c) (replicate (tab_len tabs (cells_of text) (bytes_of text)) 0x20) (hidden_as hidden c) c is

plain_after : (rule : Rule) (text row : List ℕ) → is_plain row ≡ true → expanded_after rule text row ≡ text ++ row
unfolding expanded_after
plain_after rule text [] is = sym (append-nil text)
plain_after rule text (c ∷ cs) is =
    ap (λ (t : List ℕ). expanded_after rule (text ++ t) cs) (as_is rule text c (and_parts _ _ is).0) ∙ plain_after rule (text ++ c ∷ []) cs (and_parts _ _ is).1 ∙ append_assoc text (c ∷ []) cs

pub plain_is : (rule : Rule) (row : List ℕ) → is_plain row ≡ true → expanded rule row ≡ row
plain_is rule row is = plain_after rule [] row is

same_after : (text row : List ℕ) → expanded_after Same text row ≡ text ++ row
unfolding expanded_after
same_after text [] = sym (append-nil text)
same_after text (c ∷ cs) = same_after (text ++ c ∷ []) cs ∙ append_assoc text (c ∷ []) cs

pub same_is : (row : List ℕ) → expanded Same row ≡ row
same_is row = same_after [] row

-- ---- places in a row that is printed as it is

-- the offsets of the first `k` characters
pub record OwnSoFar (row : List ℕ) (k : ℕ) (places : List ℕ) (offset : ℕ) : Type 0 where
  pub count : length places ≡ k
  pub each : (j : ℕ) → j < k → slice_index places j ≡ bytes_of (take j row)
  pub offset_is : offset ≡ bytes_of (take k row)

pub own_begin : (row places : List ℕ) → places ≡ [] → OwnSoFar row 0 places 0
own_begin row places none = record {
  count = ap length none;
  each = λ j less. absurd (omega (arith, less));
  offset_is = sym bytes_none;
}

pub own_more : (row : List ℕ) (k c : ℕ) (old new : List ℕ) (offset next : ℕ) → k < length row → c ≡ slice_index row k → new ≡ old ++ offset ∷ []
    → next ≡ offset + len_utf8 c → OwnSoFar row k old offset → OwnSoFar row (k + 1) new next
own_more row k c old new offset next within is_c new_is next_is so = record {
  count = ap length new_is ∙ length-append old (offset ∷ []) ∙ omega (arith, so.count);
  each = λ j less.
      elim (cases_lt j k) [
        | inl before ↦ ap (λ (xs : List ℕ). slice_index xs j) new_is ∙ get_or_append_left old (offset ∷ []) 0 j (omega (arith, before, so.count)) ∙ so.each j before
        | inr here ↦
            (let e : j ≡ k = omega (arith, here, less) in
            ap (λ (xs : List ℕ). slice_index xs j) new_is ∙ get_or_at old offset [] 0 j (omega (arith, e, so.count)) ∙ so.offset_is ∙ ap (λ n. bytes_of (take n row)) (sym e))
      ];
  offset_is = next_is ∙ ap (λ n. n + len_utf8 c) so.offset_is ∙ ap (λ d. bytes_of (take k row) + len_utf8 d) is_c ∙ sym (bytes_more row k within);
}

own_len : (row : List ℕ) (k : ℕ) → k ≤ length row → printed_len Same row k ≡ k
own_len row k within = ap length (same_is (take k row)) ∙ length-take-le k row within

pub own_end : (row : List ℕ) (k : ℕ) (places : List ℕ) (offset : ℕ) → length row ≤ k → k ≤ length row → OwnSoFar row k places offset → ArePlaces Same row places
own_end row k places offset past within so = record {
  count = so.count ∙ omega (arith, past, within, ap length (same_is row));
  each = λ j at there low high.
      let e : at ≡ j = omega (arith, low, high, own_len row j (omega (arith, there)), own_len row (j + 1) (omega (arith, there))) in
      ap (λ n. slice_index places n) e ∙ so.each j (omega (arith, there, past));
}

-- ---- each printed character is printed for one of the source

place_below : (rule : Rule) (row : List ℕ) (k at : ℕ) → k ≤ length row → at < printed_len rule row k → (j : ℕ) × ((j < k) × (printed_len rule row j ≤ at) × (at < printed_len rule row (j + 1)))
place_below rule row zero at within below = absurd (omega (arith, below, ap length (expanded_none rule)))
place_below rule row (suc k) at within below =
    elim (cases_lt at (printed_len rule row k)) [
      | inl before ↦ (let found = place_below rule row k at (omega (arith, within)) before in (found.0, (omega (arith, found.1.0), found.1.1, found.1.2)))
      | inr here ↦ (k, (omega arith, here, subst (λ n. at < printed_len rule row n) (let e : suc k ≡ k + 1 = omega arith in e) below))
    ]

pub place_found : (rule : Rule) (row : List ℕ) (at : ℕ) → at < length (expanded rule row) → (j : ℕ) × ((j < length row) × (printed_len rule row j ≤ at) × (at < printed_len rule row (j + 1)))
place_found rule row at within = place_below rule row (length row) at (omega arith) (omega (arith, within, ap length (ap (expanded rule) (take_all (length row) row (omega arith)))))

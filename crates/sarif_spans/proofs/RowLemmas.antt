-- Rows step by step, and where breaks may stand.
use Rattle.std.proofs.Common.{◌≡◌, ℕ, zero, suc, ◌+◌, ◌-◌, ◌<◌, ◌≤◌, List, [], ◌∷◌, ◌++◌, length, get_or, slice_index, take, drop, min, nat_eq, nat_lt, not, map, Bor, true, false, cond, true≢false, inl, inr, refl, sym, ap, ◌∙◌, subst, arith, add-zero}
use lib.Utf8.{encode}
use Rattle.std.specs.List.{starts_with}
use Rattle.std.specs.Str.{IsUtf8, IsCharBoundary}
use Rattle.std.proofs.lemmas.Bool.{and_parts, ltb-true, ne_eqb}
use Rattle.std.proofs.lemmas.Bool.Decides.{leb_tells, Decides-eqb}
use Rattle.std.proofs.lemmas.Slice.Eq.{starts_is}
use Rattle.std.proofs.lemmas.List.Prefix.{front_fits}
use Rattle.std.proofs.lemmas.List.{drop_more, drop_all, drop-drop, get_or-drop, get_or-take, length-drop, length-take-le, take_at}
use Rattle.std.proofs.lemmas.Str.{IsUtf8-drop, IsUtf8-nil, IsCharBoundary-start, IsCharBoundary-from_take, IsCharBoundary-from_rest}
use Rattle.sarif_spans.specs.Rows.{BeginsWithText, IsRowOf, begin_unprinted, break_len, is_printed, mark, row_at, rows_from, stands}

-- ---- the rows of the rest

rows_skip : (breaks : List (List ℕ)) (start at k : ℕ) (bytes : List ℕ) → k ≤ length bytes
    → rows_from breaks start at k bytes ≡ rows_from breaks start (at + k) 0 (drop k bytes)
unfolding rows_from
rows_skip breaks start at zero bytes fits = ap (λ n. rows_from breaks start n 0 bytes) (sym (add-zero at))
rows_skip breaks start at (suc k) [] fits = absurd (omega (arith, fits))
rows_skip breaks start at (suc k) (b ∷ bytes) fits =
    let fewer : k ≤ length bytes = omega (arith, fits) in
    let same : at + 1 + k ≡ at + suc k = omega arith in
    rows_skip breaks start (at + 1) k bytes fewer ∙ ap (λ n. rows_from breaks start n 0 (drop k bytes)) same

no_break : (breaks : List (List ℕ)) (start at b : ℕ) (bytes : List ℕ) → break_len breaks (b ∷ bytes) ≡ 0
    → rows_from breaks start at 0 (b ∷ bytes) ≡ rows_from breaks start (at + 1) 0 bytes
unfolding rows_from
no_break breaks start at b bytes none = rw none refl

a_break : (breaks : List (List ℕ)) (start at b width : ℕ) (bytes : List ℕ) → break_len breaks (b ∷ bytes) ≡ width → 0 < width
    → rows_from breaks start at 0 (b ∷ bytes) ≡ row_at start at ∷ rows_from breaks (at + width) (at + 1) (width - 1) bytes
unfolding rows_from
a_break breaks start at b width bytes wide some = rw (wide, ne_eqb width 0 (λ e. omega (arith, e, some))) refl

pub rows_on : (breaks : List (List ℕ)) (start at : ℕ) (text : List ℕ) → at < length text → break_len breaks (drop at text) ≡ 0
    → rows_from breaks start at 0 (drop at text) ≡ rows_from breaks start (at + 1) 0 (drop (at + 1) text)
rows_on breaks start at text within none =
    let here : drop at text ≡ get_or text at 0 ∷ drop (at + 1) text = drop_more text at 0 within in
    ap (rows_from breaks start at 0) here ∙ no_break breaks start at _ _ (ap (break_len breaks) (sym here) ∙ none)

pub rows_break : (breaks : List (List ℕ)) (start at width : ℕ) (text : List ℕ) → at < length text → break_len breaks (drop at text) ≡ width → 0 < width
    → at + width ≤ length text
    → rows_from breaks start at 0 (drop at text) ≡ row_at start at ∷ rows_from breaks (at + width) (at + width) 0 (drop (at + width) text)
rows_break breaks start at width text within wide some fits =
    let here : drop at text ≡ get_or text at 0 ∷ drop (at + 1) text = drop_more text at 0 within in
    let size : length (drop (at + 1) text) ≡ length text - (at + 1) = length-drop (at + 1) text in
    let left : width - 1 ≤ length (drop (at + 1) text) = omega (arith, size, fits, some, within) in
    let place : at + 1 + (width - 1) ≡ at + width = omega (arith, some) in
    ap (rows_from breaks start at 0) here
    ∙ a_break breaks start at _ width _ (ap (break_len breaks) (sym here) ∙ wide) some
    ∙ ap (λ rows. row_at start at ∷ rows)
    (rows_skip breaks (at + width) (at + 1) (width - 1) (drop (at + 1) text) left
    ∙ ap (rows_from breaks (at + width) (at + 1 + (width - 1)) 0) (drop-drop (width - 1) (at + 1) text)
    ∙ ap (λ n. rows_from breaks (at + width) n 0 (drop n text)) place)

pub rows_end : (breaks : List (List ℕ)) (start at : ℕ) (text : List ℕ) → length text ≤ at
    → rows_from breaks start at 0 (drop at text) ≡ row_at start at ∷ []
unfolding rows_from
rows_end breaks start at text past = rw (drop_all at text past) refl

-- ---- where texts stand

-- a text that stands in another begins and ends where no character is cut
pub text_starts : (text : List ℕ) (at width : ℕ) → at ≤ length text → 0 < width → BeginsWithText (drop at text) width → IsCharBoundary text at
text_starts text at width within some stands =
    let first : slice_index (take width (drop at text)) 0 ≡ slice_index text at =
    get_or-take width (drop at text) 0 0 some ∙ get_or-drop at text 0 0 ∙ ap (λ n. slice_index text n) (add-zero at) in
    let cut : IsCharBoundary (take width (drop at text)) 0 = IsCharBoundary-start _ stands.utf8 in
    let size : length (take width (drop at text)) ≡ width = length-take-le width (drop at text) stands.within in
    (within, λ below high. subst (λ v. 192 ≤ v) first (cut.1 (omega (arith, size, some)) (subst (λ v. 128 ≤ v) (sym first) high)))

pub text_ends : (text : List ℕ) (at width : ℕ) → IsUtf8 text → IsCharBoundary text at → BeginsWithText (drop at text) width → IsCharBoundary text (at + width)
text_ends text at width utf8 cut stands =
    IsCharBoundary-from_rest text at width cut.0
    (IsCharBoundary-from_take (drop at text) width (IsUtf8-drop text at utf8 cut) stands.within stands.utf8)

-- ---- rows in the text

pub row_fits : (text : List ℕ) (start at : ℕ) → IsCharBoundary text start → IsCharBoundary text at → IsRowOf text (row_at start at)
row_fits text start at from to =
    elim (leb_tells start at) [
      | inl t ↦ (let same : min start at ≡ start = omega (arith, t.1) in record { ordered = omega arith; start = subst (IsCharBoundary text) (sym same) from; end = to })
      | inr t ↦ (let same : min start at ≡ at = omega (arith, t.1) in record { ordered = omega arith; start = subst (IsCharBoundary text) (sym same) to; end = to })
    ]

-- ---- texts at the beginning

pub begins_with : (bytes text : List ℕ) → starts_with nat_eq bytes text ≡ true → IsUtf8 text → BeginsWithText bytes (length text)
begins_with bytes text stands utf8 =
    let split : bytes ≡ text ++ drop (length text) bytes = (starts_is Decides-eqb bytes text true (sym stands)).0 refl in
    let front : take (length text) bytes ≡ text = ap (take (length text)) split ∙ take_at text (drop (length text) bytes) (length text) refl in
    record { within = front_fits bytes text (drop (length text) bytes) split; utf8 = subst IsUtf8 (sym front) utf8 }

pub begins_with_none : (bytes : List ℕ) → BeginsWithText bytes 0
begins_with_none bytes = record { within = omega arith; utf8 = IsUtf8-nil }

mark_utf8 : IsUtf8 mark
unfolding encode
mark_utf8 = (0xFEFF ∷ [], (refl, refl))

pub begins_with_mark : (bytes : List ℕ) → starts_with nat_eq bytes mark ≡ true → BeginsWithText bytes 3
begins_with_mark bytes stands = begins_with bytes mark stands mark_utf8

-- ---- breaks that begin with no printed character

same_first : (bytes text : List ℕ) → 0 < length text → starts_with nat_eq bytes text ≡ true → slice_index text 0 ≡ slice_index bytes 0
same_first bytes [] some begins = absurd (omega (arith, some))
same_first bytes (first ∷ text) some begins =
    sym (ap (λ its. slice_index its 0) ((starts_is Decides-eqb bytes (first ∷ text) true (sym begins)).0 refl))

stands_first : (bytes text : List ℕ) → stands text bytes ≡ true → slice_index text 0 ≡ slice_index bytes 0
stands_first bytes text there =
    let both = and_parts (nat_lt 0 (length text)) (starts_with nat_eq bytes text) there in
    same_first bytes text (ltb-true 0 (length text) both.0) both.1

no_other : (byte other : ℕ) → not (is_printed other) ≡ true → is_printed byte ≡ true → other ≡ byte → true ≡ false
no_other byte other plain printed same = sym (subst (λ b. not (is_printed b) ≡ true) same plain) ∙ ap not printed

pub printed_none : (breaks : List (Bor (List ℕ))) (bytes : List ℕ) → begin_unprinted breaks ≡ true → is_printed (slice_index bytes 0) ≡ true
    → break_len (map (λ it. it.now) breaks) bytes ≡ 0
printed_none [] bytes plain printed = refl
printed_none (it ∷ its) bytes plain printed =
    let both = and_parts (not (is_printed (slice_index it.now 0))) (begin_unprinted its) plain in
    elim (stands it.now bytes) as (λ b. b ≡ stands it.now bytes → cond b (length it.now) (break_len (map (λ it. it.now) its) bytes) ≡ 0) [
      | true ↦ λ there. absurd (true≢false (no_other (slice_index bytes 0) (slice_index it.now 0) both.0 printed (stands_first bytes it.now (sym there))))
      | false ↦ λ none. printed_none its bytes both.1 printed
    ] refl

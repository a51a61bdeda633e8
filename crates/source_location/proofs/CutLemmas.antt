-- The breaks of a text that is cut in two where no CRLF is parted.
use Rattle.std.proofs.Common.{◌≡◌, ℕ, ◌+◌, ◌-◌, ◌<◌, ◌≤◌, List, [], ◌∷◌, ◌++◌, length, get_or, Option, Some, None, map, refl, sym, ap, ◌∙◌, arith, suc, zero, ⊎_elim}
use Rattle.std.specs.List.{filter_map, range_with_len, cons_option}
use Rattle.std.specs.Option.{option_map}
use Rattle.std.proofs.lemmas.Bool.{cases_lt}
use Rattle.std.proofs.lemmas.Bool.Decides.{nat_tests}
use Rattle.std.proofs.lemmas.List.{get_or_past, length-append, get_or_append_left, get_or-append-add}
use Rattle.std.proofs.lemmas.List.Elements.{filter_map-append}
use Rattle.source_location.specs.declared.newlines.LineEnding.{LineEnding}
use Rattle.source_location.specs.declared.newlines.LineEnding.TheVariants.{Lf, Cr, CrLf}
use Rattle.source_location.specs.Newlines.{ending_bytes}
use Rattle.source_location.specs.Breaks.{LineBreak, break_with, break_at, moved}
use Rattle.oxc_windows.specs.Breaks.{breaks_before, breaks_of}
pub use Rattle.base_lemmas.proofs.Ranges.{range_with_len-append}

-- the cut between two texts parts no CRLF
abbrev pub PartsNone : List ℕ → List ℕ → Type 0
PartsNone xs ys = get_or xs (length xs - 1) 0 ≡ 13 → get_or ys 0 0 ≡ 10 → ⊥

pub length-ending : (ending : LineEnding) → (1 ≤ length (ending_bytes ending)) × (length (ending_bytes ending) ≤ 2)
length-ending Lf = (omega arith, omega arith)
length-ending Cr = (omega arith, omega arith)
length-ending CrLf = (omega arith, omega arith)

-- two functions that agree over a range give the same of it
filter_map-same : {Y : Type 0} (f g : ℕ → Option Y) (a n : ℕ) → ((i : ℕ) → a ≤ i → i < a + n → f i ≡ g i) → filter_map f (range_with_len a n) ≡ filter_map g (range_with_len a n)
filter_map-same f g a zero same = refl
filter_map-same f g a (suc n) same =
    let rest = filter_map-same f g (a + 1) n (λ i low high. same i (omega arith) (omega arith)) in
    rw (same a (omega arith) (omega arith), rest) refl

cons_moved : (n : ℕ) (found : Option LineBreak) (rest : List LineBreak) → cons_option (option_map (moved n) found) (map (moved n) rest) ≡ map (moved n) (cons_option found rest)
cons_moved n None rest = refl
cons_moved n (Some b) rest = refl

-- what is found in a range further on
filter_map-moved : (f g : ℕ → Option LineBreak) (k a n b : ℕ) → b ≡ a + k → ((i : ℕ) → a ≤ i → i < a + n → f (i + k) ≡ option_map (moved k) (g i))
    → filter_map f (range_with_len b n) ≡ map (moved k) (filter_map g (range_with_len a n))
filter_map-moved f g k a zero b at same = refl
filter_map-moved f g k a (suc n) b at same =
    let here : f b ≡ option_map (moved k) (g a) = ap f at ∙ same a (omega arith) (omega arith) in
    let rest = filter_map-moved f g k (a + 1) n (b + 1) (omega arith) (λ i low high. same i (omega arith) (omega arith)) in
    ap (λ found. cons_option found (filter_map f (range_with_len (b + 1) n))) here
    ∙ ap (cons_option (option_map (moved k) (g a))) rest
    ∙ cons_moved k (g a) (filter_map g (range_with_len (a + 1) n))

-- what comes after matters only behind a CR, and there only whether it is an LF
same_after : (byte before after other place : ℕ) → (byte ≡ 13 → after ≡ 10 → other ≡ 10) → (byte ≡ 13 → other ≡ 10 → after ≡ 10)
    → break_with byte before after place ≡ break_with byte before other place
same_after byte before after other place to from = grind (arith, nat_tests)

-- what comes before matters only at an LF, and there only whether it is a CR
moved_with : (byte before other after place n : ℕ) → (byte ≡ 10 → before ≡ 13 → other ≡ 13) → (byte ≡ 10 → other ≡ 13 → before ≡ 13)
    → break_with byte before after (place + n) ≡ option_map (moved n) (break_with byte other after place)
moved_with byte before other after place n to from = grind (arith, nat_tests)

-- the byte after a place of the first part, as far as it matters
lf_after : (xs ys : List ℕ) (i : ℕ) → PartsNone xs ys → i < length xs → get_or xs i 0 ≡ 13 → (get_or (xs ++ ys) (i + 1) 0 ≡ 10 → get_or xs (i + 1) 0 ≡ 10) × (get_or xs (i + 1) 0 ≡ 10 → get_or (xs ++ ys) (i + 1) 0 ≡ 10)
lf_after xs ys i whole h cr =
    ⊎_elim (λ lt. let same = get_or_append_left xs ys 0 (i + 1) lt in ((λ e. sym same ∙ e), (λ e. same ∙ e)))
    (λ ge.
    let last : i ≡ length xs - 1 = omega arith in
    let next : i + 1 ≡ length xs + 0 = omega arith in
    let first = ap (λ k. get_or (xs ++ ys) k 0) next ∙ get_or-append-add xs ys 0 0 in
    ((λ e. absurd (whole (ap (λ k. get_or xs k 0) (sym last) ∙ cr) (sym first ∙ e))), (λ e. absurd (omega (arith, get_or_past xs (i + 1) 0 ge, e)))))
    (cases_lt (i + 1) (length xs))

-- the breaks that start in the first part
break_in_front : (xs ys : List ℕ) (i : ℕ) → PartsNone xs ys → i < length xs → break_at (xs ++ ys) i ≡ break_at xs i
break_in_front xs ys i whole h =
    ap (λ byte. break_with byte (get_or (xs ++ ys) (i - 1) 0) (get_or (xs ++ ys) (i + 1) 0) i) (get_or_append_left xs ys 0 i h)
    ∙ ap (λ before. break_with (get_or xs i 0) before (get_or (xs ++ ys) (i + 1) 0) i) (get_or_append_left xs ys 0 (i - 1) (omega arith))
    ∙ same_after (get_or xs i 0) (get_or xs (i - 1) 0) (get_or (xs ++ ys) (i + 1) 0) (get_or xs (i + 1) 0) i
    (λ cr. (lf_after xs ys i whole h cr).0) (λ cr. (lf_after xs ys i whole h cr).1)

-- the byte before a place of the second part, as far as it matters
cr_before : (xs ys : List ℕ) (i : ℕ) → PartsNone xs ys → get_or ys i 0 ≡ 10 → (get_or (xs ++ ys) (i + length xs - 1) 0 ≡ 13 → get_or ys (i - 1) 0 ≡ 13) × (get_or ys (i - 1) 0 ≡ 13 → get_or (xs ++ ys) (i + length xs - 1) 0 ≡ 13)
cr_before xs ys zero whole lf = ((λ e. absurd (before e)), (λ e. absurd (omega (arith, e, lf))))
  where
    before : get_or (xs ++ ys) (0 + length xs - 1) 0 ≡ 13 → ⊥
    before e =
        ⊎_elim (λ some.
        let place : 0 + length xs - 1 ≡ length xs - 1 = omega arith in
        whole (sym (get_or_append_left xs ys 0 (length xs - 1) (omega arith)) ∙ ap (λ k. get_or (xs ++ ys) k 0) (sym place) ∙ e) lf)
        (λ none.
        let place : 0 + length xs - 1 ≡ length xs + 0 = omega arith in
        omega (arith, ap (λ k. get_or (xs ++ ys) k 0) place, get_or-append-add xs ys 0 0, e, lf))
        (cases_lt 0 (length xs))
cr_before xs ys (suc i) whole lf =
    let place : suc i + length xs - 1 ≡ length xs + i = omega arith in
    let earlier : suc i - 1 ≡ i = omega arith in
    let same = ap (λ k. get_or (xs ++ ys) k 0) place ∙ get_or-append-add xs ys i 0 ∙ ap (λ k. get_or ys k 0) (sym earlier) in
    ((λ e. sym same ∙ e), (λ e. same ∙ e))

-- the breaks that start in the second
break_behind : (xs ys : List ℕ) (i : ℕ) → PartsNone xs ys → break_at (xs ++ ys) (i + length xs) ≡ option_map (moved (length xs)) (break_at ys i)
break_behind xs ys i whole =
    let here : i + length xs ≡ length xs + i = omega arith in
    let next : i + length xs + 1 ≡ length xs + (i + 1) = omega arith in
    ap (λ byte. break_with byte (get_or (xs ++ ys) (i + length xs - 1) 0) (get_or (xs ++ ys) (i + length xs + 1) 0) (i + length xs))
    (ap (λ k. get_or (xs ++ ys) k 0) here ∙ get_or-append-add xs ys i 0)
    ∙ ap (λ after. break_with (get_or ys i 0) (get_or (xs ++ ys) (i + length xs - 1) 0) after (i + length xs))
    (ap (λ k. get_or (xs ++ ys) k 0) next ∙ get_or-append-add xs ys (i + 1) 0)
    ∙ moved_with (get_or ys i 0) (get_or (xs ++ ys) (i + length xs - 1) 0) (get_or ys (i - 1) 0) (get_or ys (i + 1) 0) i (length xs)
    (λ lf. (cr_before xs ys i whole lf).0) (λ lf. (cr_before xs ys i whole lf).1)

-- the breaks of a text are those of its front and, further on, those of its rest
pub breaks_of-append : (xs ys : List ℕ) → PartsNone xs ys → breaks_of (xs ++ ys) ≡ breaks_of xs ++ map (moved (length xs)) (breaks_of ys)
unfolding breaks_of breaks_before
breaks_of-append xs ys whole =
    ap (λ n. filter_map (break_at (xs ++ ys)) (range_with_len 0 n)) (length-append xs ys)
    ∙ ap (filter_map (break_at (xs ++ ys))) (range_with_len-append 0 (length xs) (length ys))
    ∙ filter_map-append (break_at (xs ++ ys)) (range_with_len 0 (length xs)) (range_with_len (0 + length xs) (length ys))
    ∙ ap (λ l. l ++ filter_map (break_at (xs ++ ys)) (range_with_len (0 + length xs) (length ys)))
    (filter_map-same (break_at (xs ++ ys)) (break_at xs) 0 (length xs) (λ i low high. break_in_front xs ys i whole (omega arith)))
    ∙ ap (λ l. filter_map (break_at xs) (range_with_len 0 (length xs)) ++ l)
    (filter_map-moved (break_at (xs ++ ys)) (break_at ys) (length xs) 0 (length ys) (0 + length xs) refl (λ i low high. break_behind xs ys i whole))

filter_map-none : {Y : Type 0} (f : ℕ → Option Y) (a n : ℕ) → ((i : ℕ) → a ≤ i → i < a + n → f i ≡ None) → filter_map f (range_with_len a n) ≡ []
filter_map-none f a zero none = refl
filter_map-none f a (suc n) none =
    rw (none a (omega arith) (omega arith)) (filter_map-none f (a + 1) n (λ i low high. none i (omega arith) (omega arith)))

-- neither an LF nor a CR stands in the bytes
abbrev pub HasNone : List ℕ → Type 0
HasNone xs = (i : ℕ) → i < length xs → (get_or xs i 0 ≡ 10 → ⊥) × (get_or xs i 0 ≡ 13 → ⊥)

none_with : (byte before after place : ℕ) → (byte ≡ 10 → ⊥) → (byte ≡ 13 → ⊥) → break_with byte before after place ≡ None
none_with byte before after place lf cr = grind (arith, nat_tests)

-- they have no break
pub breaks_of-none : (xs : List ℕ) → HasNone xs → breaks_of xs ≡ []
unfolding breaks_of breaks_before
breaks_of-none xs none =
    filter_map-none (break_at xs) 0 (length xs) (λ i low high.
    let here = none i (omega arith) in
    none_with (get_or xs i 0) (get_or xs (i - 1) 0) (get_or xs (i + 1) 0) i here.0 here.1)

-- a line ending alone is one break
pub breaks_of-ending : (ending : LineEnding) → breaks_of (ending_bytes ending) ≡ record { start = 0; end = length (ending_bytes ending) - 1 } ∷ []
unfolding breaks_of breaks_before
breaks_of-ending Lf = refl
breaks_of-ending Cr = refl
breaks_of-ending CrLf = refl

map_moved-moved : (n m : ℕ) (list : List LineBreak) → map (moved n) (map (moved m) list) ≡ map (moved (n + m)) list
map_moved-moved n m [] = refl
map_moved-moved n m (b ∷ list) =
    let start : b.start + m + n ≡ b.start + (n + m) = omega arith in
    let end : b.end + m + n ≡ b.end + (n + m) = omega arith in
    rw (start, end, map_moved-moved n m list) refl

parts_none_after : (xs ys : List ℕ) → HasNone xs → PartsNone xs ys
parts_none_after [] ys none = λ cr lf. absurd (omega (arith, cr))
parts_none_after (x ∷ xs) ys none = λ cr lf. (none (length (x ∷ xs) - 1) (omega arith)).1 cr

-- bytes without a break, then a line ending: its break comes first, and then those of what follows
pub breaks_of-first : (front rest : List ℕ) (ending : LineEnding) → HasNone front → PartsNone (ending_bytes ending) rest
    → breaks_of (front ++ (ending_bytes ending ++ rest))
    ≡ record { start = length front; end = length front + length (ending_bytes ending) - 1 } ∷ map (moved (length front + length (ending_bytes ending))) (breaks_of rest)
breaks_of-first front rest ending none whole =
    let e = ending_bytes ending in
    let last : length e - 1 + length front ≡ length front + length e - 1 = omega (arith, length-ending ending) in
    let first : 0 + length front ≡ length front = omega arith in
    breaks_of-append front (e ++ rest) (parts_none_after front (e ++ rest) none)
    ∙ ap (λ l. l ++ map (moved (length front)) (breaks_of (e ++ rest))) (breaks_of-none front none)
    ∙ ap (map (moved (length front))) (breaks_of-append e rest whole ∙ ap (λ l. l ++ map (moved (length e)) (breaks_of rest)) (breaks_of-ending ending))
    ∙ rw (first, last, map_moved-moved (length front) (length e) (breaks_of rest)) refl

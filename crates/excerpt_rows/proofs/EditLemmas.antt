-- The edit as a value, from what is known of it.
use Rattle.std.proofs.Common.{◌≡◌, ℕ, zero, suc, ◌+◌, ◌-◌, ◌<◌, ◌≤◌, ◌==◌, ◌&&◌, not, nat_lt, if◌then◌else◌, Bool, true, false, Bor, List, [], ◌∷◌, ◌++◌, length, drop, take, map, filter, reverse, slice_get, slice_index, slice_range, Option, Some, None, IsSomeAnd, IfOk, IfSome, Ok, Err, Result, MatchBool, MatchOption, is_some, option_to_list, refl, sym, ap, ◌∙◌, subst, inl, inr, arith}
use Rattle.std.specs.Cmp.Lexicographic.{pointwise}
use Rattle.std.specs.List.{find, flat_map, list_all, prefix_len, suffix_len, sum_by}
use Rattle.std.specs.Option.{option_and_then, option_copied, option_map}
use Rattle.std.proofs.lemmas.Bool.{and_from, and_parts, lt-ltb, ltb-true, not-true, not_from_false, or_cases, or_left, or_right}
use Rattle.std.proofs.lemmas.Bool.Decides.{Decides-eqb}
use Rattle.std.proofs.lemmas.List.{drop-map, length-map, map-append, reverse-append, take-map}
use Rattle.std.proofs.lemmas.List.Sums.{sum_by-cons}
use Rattle.std.proofs.lemmas.Option.{slice_get-map}
use Rattle.std.proofs.lemmas.Slice.Eq.{slice_eq-Decides, starts_is}
use Rattle.excerpt_rows.specs.declared.hunk.Sign.{Sign}
use Rattle.excerpt_rows.specs.declared.hunk.Sign.TheVariants.{Unsigned, Added, Removed, Changed}
use Rattle.excerpt_rows.specs.declared.hunk.HunkRow.{HunkRow}
use Rattle.excerpt_rows.specs.declared.hunk.Edit.{Edit}
use Rattle.excerpt_rows.specs.Aligned.{alignment_of, begins_with}
use Rattle.excerpt_rows.specs.Edits.{EditParts, HunkRowView, changes, changes_at, changes_end, edit_at, edit_from, edit_in, edit_parts, first_by, first_in, gives, gives_by, go_on, goes_by, has_dots, has_no_other, has_number, is_exact, is_kept, is_restored, number_of, of_source, row_view, stays, takes, takes_some}
use Rattle.excerpt_rows.specs.Ends.{is_blank}
use Rattle.excerpt_rows.specs.Hunk.{AreExact, AreSteps, HasDots, HasNoEdit, IsAligned, IsEdit, IsExact, IsSourceRow, Restores, StepBy, begin, end, given_by, is_changed_by, is_context, is_marked, is_of_source, left_of, middle, number_at, place, place_by, row_list, taken}
use Rattle.excerpt_rows.proofs.AlignedLemmas.{aligned_is, aligned_told}
use Rattle.excerpt_rows.proofs.HunkLemmas.{cons_steps, no_steps, steps_cons}

-- ---- dots

abbrev dots : List ℕ
dots = 0x2E ∷ 0x2E ∷ 0x2E ∷ []

dots_here : (c : ℕ) (cs : List ℕ) → begins_with (c ∷ cs) dots ≡ true → HasDots (c ∷ cs)
dots_here c cs here =
    let whole : c ∷ cs ≡ dots ++ drop 3 (c ∷ cs) = (starts_is Decides-eqb (c ∷ cs) dots (begins_with (c ∷ cs) dots) refl).0 here in
    let size : length (c ∷ cs) ≡ suc (suc (suc (length (drop 3 (c ∷ cs))))) = ap length whole in (
      2,
      omega (arith, size),
      (omega arith, ap (λ (t : List ℕ). slice_index t 2) whole, ap (λ (t : List ℕ). slice_index t 1) whole, ap (λ (t : List ℕ). slice_index t 0) whole),
    )

dots_later : (c : ℕ) (cs : List ℕ) → HasDots cs → HasDots (c ∷ cs)
dots_later c cs so =
    let k = so.0 in
    let less : 2 ≤ k = so.2.0 in
    let one : suc (k - 1) ≡ suc k - 1 = omega (arith, less) in
    let two : suc (k - 2) ≡ suc k - 2 = omega (arith, less) in
    (suc k, omega (arith, so.1), (omega (arith, less), so.2.1, sym (ap (slice_index (c ∷ cs)) one) ∙ so.2.2, sym (ap (slice_index (c ∷ cs)) two) ∙ so.2.3))

dots_told : (text : List ℕ) → has_dots text ≡ true → HasDots text
dots_told [] is = cc
dots_told (c ∷ cs) is =
    elim (or_cases (begins_with (c ∷ cs) dots) (has_dots cs) is) [
      | inl here ↦ dots_here c cs here
      | inr later ↦ dots_later c cs (dots_told cs later)
    ]

dots_at : (text : List ℕ) (k : ℕ) → k < length text → slice_index text k ≡ 0x2E → 2 ≤ k → slice_index text (k - 1) ≡ 0x2E → slice_index text (k - 2) ≡ 0x2E → has_dots text ≡ true
dots_at [] k within a less b d = absurd (omega (arith, within))
dots_at (x ∷ []) k within a less b d = absurd (omega (arith, within, less))
dots_at (x ∷ y ∷ []) k within a less b d = absurd (omega (arith, within, less))
dots_at (x ∷ y ∷ z ∷ rest) zero within a less b d = absurd (omega (arith, less))
dots_at (x ∷ y ∷ z ∷ rest) (suc zero) within a less b d = absurd (omega (arith, less))
dots_at (x ∷ y ∷ z ∷ rest) (suc (suc zero)) within a less b d =
    let whole : x ∷ y ∷ z ∷ rest ≡ dots ++ rest =
    ap (λ n. n ∷ y ∷ z ∷ rest) d ∙ ap (λ n. 0x2E ∷ n ∷ z ∷ rest) b ∙ ap (λ n. 0x2E ∷ 0x2E ∷ n ∷ rest) a in
    or_left (begins_with (x ∷ y ∷ z ∷ rest) dots) (has_dots (y ∷ z ∷ rest)) ((starts_is Decides-eqb (x ∷ y ∷ z ∷ rest) dots (begins_with (x ∷ y ∷ z ∷ rest) dots) refl).1 rest whole)
dots_at (x ∷ y ∷ z ∷ rest) (suc (suc (suc k))) within a less b d =
    let one : suc (suc (suc k) - 1) ≡ suc (suc (suc k)) - 1 = omega arith in
    let two : suc (suc (suc k) - 2) ≡ suc (suc (suc k)) - 2 = omega arith in
    or_right (begins_with (x ∷ y ∷ z ∷ rest) dots) (has_dots (y ∷ z ∷ rest))
    (dots_at (y ∷ z ∷ rest) (suc (suc k)) (omega (arith, within)) a (omega arith) (ap (slice_index (x ∷ y ∷ z ∷ rest)) one ∙ b) (ap (slice_index (x ∷ y ∷ z ∷ rest)) two ∙ d))

dots_is : (text : List ℕ) → HasDots text → has_dots text ≡ true
dots_is text so = dots_at text so.0 so.1 so.2.1 so.2.0 so.2.2 so.2.3

-- ---- one row

not_if : (b : Bool) → (b ≡ true → ⊥) → not b ≡ true
not_if true never = absurd (never refl)
not_if false never = refl

row_told : (row : HunkRow) → is_exact (row_view row) ≡ true → IsExact row
row_told row is =
    let rest = (and_parts (not (is_changed_by row.sign)) (not (has_dots row.text.now) && list_all (λ mark. mark.added) row.marks.now) is).1 in
    record {
      sign = not-true (is_changed_by row.sign) (and_parts (not (is_changed_by row.sign)) (not (has_dots row.text.now) && list_all (λ mark. mark.added) row.marks.now) is).0;
      dots = λ so.
          (let yes = dots_is row.text.now so in
          let no = not-true (has_dots row.text.now) (and_parts (not (has_dots row.text.now)) (list_all (λ mark. mark.added) row.marks.now) rest).0 in
          cc);
      marks = (and_parts (not (has_dots row.text.now)) (list_all (λ mark. mark.added) row.marks.now) rest).1;
    }

row_is : (row : HunkRow) → IsExact row → is_exact (row_view row) ≡ true
row_is row so =
    and_from (not (is_changed_by row.sign)) (not (has_dots row.text.now) && list_all (λ mark. mark.added) row.marks.now) (not_from_false (is_changed_by row.sign) so.sign)
    (and_from (not (has_dots row.text.now)) (list_all (λ mark. mark.added) row.marks.now) (not_if (has_dots row.text.now) (λ yes. so.dots (dots_told row.text.now yes))) so.marks)

none_there : (k : ℕ) (row : HunkRow) → slice_get [] k ≡ Some row → ⊥
none_there k row there = cc

exact_told : (rows : List HunkRow) → list_all is_exact (map row_view rows) ≡ true → AreExact rows
exact_told [] is k row there = absurd (none_there k row there)
exact_told (first ∷ rows) is zero row there =
    let same : first ≡ row = cc in subst IsExact same (row_told first (and_parts (is_exact (row_view first)) (list_all is_exact (map row_view rows)) is).0)
exact_told (first ∷ rows) is (suc k) row there = exact_told rows (and_parts (is_exact (row_view first)) (list_all is_exact (map row_view rows)) is).1 k row there

exact_is : (rows : List HunkRow) → AreExact rows → list_all is_exact (map row_view rows) ≡ true
exact_is [] so = refl
exact_is (first ∷ rows) so =
    and_from (is_exact (row_view first)) (list_all is_exact (map row_view rows)) (row_is first (so 0 first refl)) (exact_is rows (λ k row there. so (suc k) row there))

-- ---- one step

source_told : (P : Bor (List ℕ) → Type 0) (test : List ℕ → Bool) (source : Option (Bor (List ℕ))) → ((s : Bor (List ℕ)) → test s.now ≡ true → P s) → of_source test (option_copied source) ≡ true → IsSomeAnd source P
source_told P test None so is = cc
source_told P test (Some s) so is = so s is

source_is : (P : Bor (List ℕ) → Type 0) (test : List ℕ → Bool) (source : Option (Bor (List ℕ))) → ((s : Bor (List ℕ)) → P s → test s.now ≡ true) → IsSomeAnd source P → of_source test (option_copied source) ≡ true
source_is P test None so is = absurd is
source_is P test (Some s) so is = so s is

abbrev is_same : HunkRow → List ℕ → Bool
is_same row source = pointwise (λ a b. a == b) (left_of row.marks.now 0 row.text.now) (filter (λ c. not (is_blank c)) source)

kept_told : (row : HunkRow) → is_kept (row_view row) ≡ true → IsSourceRow row
kept_told row is =
    source_told (λ source. IsAligned row.text.now source.now) (λ source. is_some (alignment_of row.text.now source)) row.source (λ s holds. aligned_told row.text.now s.now holds) is

kept_is : (row : HunkRow) → IsSourceRow row → is_kept (row_view row) ≡ true
kept_is row so =
    source_is (λ source. IsAligned row.text.now source.now) (λ source. is_some (alignment_of row.text.now source)) row.source (λ s holds. aligned_is row.text.now s.now holds) so

restored_told : (row : HunkRow) → is_restored (row_view row) ≡ true → Restores row
restored_told row is =
    source_told (λ source. left_of row.marks.now 0 row.text.now ≡ filter (λ c. not (is_blank c)) source.now) (is_same row) row.source
    (λ s holds. (slice_eq-Decides Decides-eqb (left_of row.marks.now 0 row.text.now) (filter (λ c. not (is_blank c)) s.now) (is_same row s.now) refl).0 holds) is

restored_is : (row : HunkRow) → Restores row → is_restored (row_view row) ≡ true
restored_is row so =
    source_is (λ source. left_of row.marks.now 0 row.text.now ≡ filter (λ c. not (is_blank c)) source.now) (is_same row) row.source
    (λ s holds. (slice_eq-Decides Decides-eqb (left_of row.marks.now 0 row.text.now) (filter (λ c. not (is_blank c)) s.now) (is_same row s.now) refl).1 holds) so

number_told : (number : Option ℕ) (n : ℕ) → has_number number n ≡ true → number ≡ Some n
number_told None n is = cc
number_told (Some number) n is = ap Some ((Decides-eqb number n).0 is)

number_is : (number : Option ℕ) (n : ℕ) → number ≡ Some n → has_number number n ≡ true
number_is None n is = cc
number_is (Some number) n is = (Decides-eqb number n).1 (let e : number ≡ n = cc in e)

other_told : (number : Option ℕ) (n : ℕ) → has_no_other number n ≡ true → IfSome number (λ m. m ≡ n)
other_told None n is = tt
other_told (Some number) n is = (Decides-eqb number n).0 is

other_is : (number : Option ℕ) (n : ℕ) → IfSome number (λ m. m ≡ n) → has_no_other number n ≡ true
other_is None n is = refl
other_is (Some number) n is = (Decides-eqb number n).1 is

marked_told : (row : HunkRow) (marked : Bool) → (if marked then is_restored (row_view row) else is_kept (row_view row)) ≡ true → MatchBool marked (Restores row) (IsSourceRow row)
marked_told row true is = restored_told row is
marked_told row false is = kept_told row is

marked_is : (row : HunkRow) (marked : Bool) → MatchBool marked (Restores row) (IsSourceRow row) → (if marked then is_restored (row_view row) else is_kept (row_view row)) ≡ true
marked_is row true so = restored_is row so
marked_is row false so = kept_is row so

step_told : (sign : Sign) (row : HunkRow) (old new : ℕ) → goes_by sign (row_view row) old new ≡ true → StepBy sign row old new
step_told Unsigned row old new is =
    let second = if is_marked row then is_restored (row_view row) else is_kept (row_view row) in (
      number_told row.number old (and_parts (has_number row.number old) second is).0,
      marked_told row (is_marked row) (and_parts (has_number row.number old) second is).1,
    )
step_told Added row old new is = other_told row.number new is
step_told Removed row old new is =
    (number_told row.number old (and_parts (has_number row.number old) (is_kept (row_view row)) is).0, kept_told row (and_parts (has_number row.number old) (is_kept (row_view row)) is).1)
step_told Changed row old new is = cc

step_is : (sign : Sign) (row : HunkRow) (old new : ℕ) → StepBy sign row old new → goes_by sign (row_view row) old new ≡ true
step_is Unsigned row old new so =
    and_from (has_number row.number old) (if is_marked row then is_restored (row_view row) else is_kept (row_view row)) (number_is row.number old so.0) (marked_is row (is_marked row) so.1)
step_is Added row old new so = other_is row.number new so
step_is Removed row old new so = and_from (has_number row.number old) (is_kept (row_view row)) (number_is row.number old so.0) (kept_is row so.1)
step_is Changed row old new so = absurd so

-- ---- the rows that come of rows

gives_so : (sign : Sign) (row : HunkRow) → gives_by sign (row_view row) ≡ given_by sign row
gives_so Unsigned row = refl
gives_so Added row = refl
gives_so Removed row = refl
gives_so Changed row = refl

gives_is : (row : HunkRow) → gives (row_view row) ≡ row_list row
gives_is row = ap option_to_list (gives_so row.sign row)

steps_told : (rows : List HunkRow) (old new : ℕ) → go_on (map row_view rows) old new ≡ true → AreSteps rows old new
steps_told [] old new is = no_steps old new
steps_told (row ∷ rows) old new is =
    let first = goes_by row.sign (row_view row) old new in
    let rest = go_on (map row_view rows) (old + taken row) (new + length (gives (row_view row))) in
    let e : new + length (gives (row_view row)) ≡ new + length (row_list row) = ap (λ (xs : List (List ℕ)). new + length xs) (gives_is row) in
    cons_steps row rows old new (step_told row.sign row old new (and_parts first rest is).0)
    (steps_told rows (old + taken row) (new + length (row_list row)) (ap (λ n. go_on (map row_view rows) (old + taken row) n) (sym e) ∙ (and_parts first rest is).1))

steps_is : (rows : List HunkRow) (old new : ℕ) → AreSteps rows old new → go_on (map row_view rows) old new ≡ true
steps_is [] old new so = refl
steps_is (row ∷ rows) old new so =
    let here = steps_cons row rows old new so in
    let e : new + length (gives (row_view row)) ≡ new + length (row_list row) = ap (λ (xs : List (List ℕ)). new + length xs) (gives_is row) in
    and_from (goes_by row.sign (row_view row) old new) (go_on (map row_view rows) (old + taken row) (new + length (gives (row_view row)))) (step_is row.sign row old new here.0)
    (ap (λ n. go_on (map row_view rows) (old + taken row) n) e ∙ steps_is rows (old + taken row) (new + length (row_list row)) here.1)

flat_is : (rows : List HunkRow) → flat_map gives (map row_view rows) ≡ flat_map row_list rows
flat_is [] = refl
flat_is (row ∷ rows) = ap (λ (xs : List (List ℕ)). xs ++ flat_map gives (map row_view rows)) (gives_is row) ∙ ap (λ (xs : List (List ℕ)). row_list row ++ xs) (flat_is rows)

sum_is : (rows : List HunkRow) → sum_by takes (map row_view rows) ≡ sum_by taken rows
sum_is [] = refl
sum_is (row ∷ rows) = sum_by-cons takes (row_view row) (map row_view rows) ∙ ap (λ n. taken row + n) (sum_is rows) ∙ sym (sum_by-cons taken row rows)

-- ---- where they are

abbrev view_of_row : Option HunkRow → Option HunkRowView
view_of_row row = option_map row_view row

reverse_map : (rows : List HunkRow) → reverse (map row_view rows) ≡ map row_view (reverse rows)
reverse_map [] = refl
reverse_map (row ∷ rows) =
    reverse-append (row_view row ∷ []) (map row_view rows) ∙ ap (λ (xs : List HunkRowView). xs ++ row_view row ∷ []) (reverse_map rows)
    ∙ sym (map-append row_view (reverse rows) (row ∷ [])) ∙ sym (ap (map row_view) (reverse-append (row ∷ []) rows))

prefix_is : (rows : List HunkRow) → prefix_len stays (map row_view rows) ≡ prefix_len is_context rows
prefix_is [] = refl
prefix_is (row ∷ rows) = ap (λ n. if is_context row then 1 + n else 0) (prefix_is rows)

suffix_is : (rows : List HunkRow) → suffix_len stays (map row_view rows) ≡ suffix_len is_context rows
suffix_is rows = ap (prefix_len stays) (reverse_map rows) ∙ prefix_is (reverse rows)

end_is : (rows : List HunkRow) → changes_end (map row_view rows) ≡ end rows
end_is rows = ap (λ n. length (map row_view rows) - n) (suffix_is rows) ∙ ap (λ n. n - suffix_len is_context rows) (length-map rows row_view)

range_is : (rows : List HunkRow) (a b : ℕ) → slice_range (map row_view rows) a b ≡ map row_view (slice_range rows a b)
range_is rows a b = ap (take (b - a)) (drop-map row_view a rows) ∙ take-map row_view (b - a) (drop a rows)

changes_is : (rows : List HunkRow) → changes (map row_view rows) ≡ map row_view (middle rows)
changes_is rows =
    ap (λ n. slice_range (map row_view rows) n (changes_end (map row_view rows))) (prefix_is rows) ∙ ap (λ n. slice_range (map row_view rows) (begin rows) n) (end_is rows) ∙ range_is rows (begin rows) (end rows)

number_view : (row : Option HunkRow) → option_and_then (λ r. r.number) (view_of_row row) ≡ option_and_then (λ r. r.number) row
number_view None = refl
number_view (Some row) = refl

number_same : (rows : List HunkRow) (k : ℕ) → number_of (map row_view rows) k ≡ number_at rows k
number_same rows k = ap (λ (o : Option HunkRowView). option_and_then (λ r. r.number) o) (slice_get-map row_view rows k) ∙ number_view (slice_get rows k)

find_by : (yes : Bool) (row : HunkRow) (rows : List HunkRow) → find takes_some (map row_view rows) ≡ view_of_row (find is_of_source rows)
    → (if yes then Some (row_view row) else find takes_some (map row_view rows)) ≡ view_of_row (if yes then Some row else find is_of_source rows)
find_by true row rows so = refl
find_by false row rows so = so

find_is : (rows : List HunkRow) → find takes_some (map row_view rows) ≡ view_of_row (find is_of_source rows)
find_is [] = refl
find_is (row ∷ rows) = find_by (is_of_source row) row rows (find_is rows)

first_view : (row : Option HunkRow) (own before after : Option ℕ) → first_by (view_of_row row) own before after ≡ place_by row own before after
first_view (Some row) own before after = refl
first_view None (Some own) before after = refl
first_view None None (Some before) after = refl
first_view None None None after = refl

abbrev before_of : List HunkRow → Option ℕ
before_of rows = if nat_lt 0 (begin rows) then number_at rows (begin rows - 1) else None

before_is : (rows : List HunkRow) → (if nat_lt 0 (changes_at (map row_view rows)) then number_of (map row_view rows) (changes_at (map row_view rows) - 1) else None) ≡ before_of rows
before_is rows =
    ap (λ n. if nat_lt 0 n then number_of (map row_view rows) (n - 1) else None) (prefix_is rows) ∙ ap (λ (o : Option ℕ). if nat_lt 0 (begin rows) then o else None) (number_same rows (begin rows - 1))

place_is : (rows : List HunkRow) → first_in (map row_view rows) ≡ place rows
place_is rows =
    let all = map row_view rows in
    let before = if nat_lt 0 (changes_at all) then number_of all (changes_at all - 1) else None in
    ap (λ (o : Option HunkRowView). first_by o (number_of all (changes_at all)) before (number_of all (changes_end all)))
    (ap (find takes_some) (changes_is rows) ∙ find_is (middle rows))
    ∙ first_view (find is_of_source (middle rows)) (number_of all (changes_at all)) before (number_of all (changes_end all))
    ∙ ap (λ (o : Option ℕ). place_by (find is_of_source (middle rows)) o before (number_of all (changes_end all))) (ap (number_of all) (prefix_is rows) ∙ number_same rows (begin rows))
    ∙ ap (λ (o : Option ℕ). place_by (find is_of_source (middle rows)) (number_at rows (begin rows)) o (number_of all (changes_end all))) (before_is rows)
    ∙ ap (λ (o : Option ℕ). place_by (find is_of_source (middle rows)) (number_at rows (begin rows)) (before_of rows) o) (ap (number_of all) (end_is rows) ∙ number_same rows (end rows))

-- ---- the whole

abbrev value_by : List HunkRow → Bool → Bool → Option ℕ → Option EditParts
value_by rows exact some at = if exact && some then edit_from (map row_view (middle rows)) at else None

value_is : (rows : List HunkRow) → edit_in (map row_view rows) ≡ value_by rows (list_all is_exact (map row_view rows)) (nat_lt (begin rows) (end rows)) (place rows)
unfolding edit_in
value_is rows =
    let all = map row_view rows in
    ap (λ n. if list_all is_exact all && nat_lt n (changes_end all) then edit_from (changes all) (first_in all) else None) (prefix_is rows)
    ∙ ap (λ n. if list_all is_exact all && nat_lt (begin rows) n then edit_from (changes all) (first_in all) else None) (end_is rows)
    ∙ ap (λ (c : List HunkRowView). if list_all is_exact all && nat_lt (begin rows) (end rows) then edit_from c (first_in all) else None) (changes_is rows)
    ∙ ap (λ (o : Option ℕ). if list_all is_exact all && nat_lt (begin rows) (end rows) then edit_from (map row_view (middle rows)) o else None) (place_is rows)

abbrev parts : ℕ → ℕ → List (List ℕ) → EditParts
parts first count rows = record { first = first; count = count; rows = rows }

edit_same : (rows : List HunkRow) (edit : Edit) → IsEdit rows edit → Some (edit_parts edit) ≡ edit_in (map row_view rows)
edit_same rows edit so =
    let first = edit.first in
    let placed = so.placed in
    let changed = map row_view (middle rows) in
    let tests : (nat_lt 0 first && go_on changed first first) ≡ true = and_from (nat_lt 0 first) (go_on changed first first) (lt-ltb 0 first placed.numbered) (steps_is (middle rows) first first placed.steps) in
    let whole : (list_all is_exact (map row_view rows) && nat_lt (begin rows) (end rows)) ≡ true =
    and_from (list_all is_exact (map row_view rows)) (nat_lt (begin rows) (end rows)) (exact_is rows placed.exact) (lt-ltb (begin rows) (end rows) placed.some) in
    sym (
    value_is rows ∙ ap (λ (b : Bool). if b then edit_from changed (place rows) else None) whole ∙ ap (edit_from changed) placed.place_is
    ∙ ap (λ (b : Bool). if b then Some (edit_at changed first) else None) tests
    ∙ ap (λ n. Some (parts first n (flat_map gives changed))) (sum_is (middle rows) ∙ sym so.sum.count)
    ∙ ap (λ (xs : List (List ℕ)). Some (parts first edit.count xs)) (flat_is (middle rows) ∙ sym so.sum.rows_are)
    )

if_none : (b : Bool) (edit : EditParts) → (b ≡ true → ⊥) → (if b then Some edit else None) ≡ None
if_none true edit never = absurd (never refl)
if_none false edit never = refl

from_none : (rows : List HunkRow) (at : Option ℕ) → ((first : ℕ) → at ≡ Some first → 0 < first → AreSteps (middle rows) first first → ⊥) → edit_from (map row_view (middle rows)) at ≡ None
from_none rows None never = refl
from_none rows (Some first) never =
    let changed = map row_view (middle rows) in
    if_none (nat_lt 0 first && go_on changed first first) (edit_at changed first)
    (λ yes. never first refl (ltb-true 0 first (and_parts (nat_lt 0 first) (go_on changed first first) yes).0) (steps_told (middle rows) first first (and_parts (nat_lt 0 first) (go_on changed first first) yes).1))

none_if : (rows : List HunkRow) (b : Bool) → (b ≡ true → edit_from (map row_view (middle rows)) (place rows) ≡ None) → (if b then edit_from (map row_view (middle rows)) (place rows) else None) ≡ None
none_if rows true so = so refl
none_if rows false so = refl

none_same : (rows : List HunkRow) → HasNoEdit rows → None ≡ edit_in (map row_view rows)
none_same rows never =
    let exact = list_all is_exact (map row_view rows) in
    let some = nat_lt (begin rows) (end rows) in
    sym (
    value_is rows
    ∙ none_if rows (exact && some)
    (λ yes.
    from_none rows (place rows)
    (λ first at numbered steps.
    never first
    (record {
      exact = exact_told rows (and_parts exact some yes).0;
      some = ltb-true (begin rows) (end rows) (and_parts exact some yes).1;
      place_is = at;
      numbered = numbered;
      steps = steps;
    })))
    )

-- what the relation says of an edit, the value says
edit_is : (rows : List HunkRow) (found : Option Edit) → MatchOption found (HasNoEdit rows) (IsEdit rows) → option_map edit_parts found ≡ edit_in (map row_view rows)
edit_is rows None so = none_same rows so
edit_is rows (Some edit) so = edit_same rows edit so

pub edit_if : {E : Type 0} (rows : List HunkRow) (result : Result (Option Edit) E) → IfOk result (λ found. MatchOption found (HasNoEdit rows) (IsEdit rows))
    → IfOk result (λ found. option_map edit_parts found ≡ edit_in (map row_view rows))
edit_if rows (Ok found) so = edit_is rows found so
edit_if rows (Err error) so = tt

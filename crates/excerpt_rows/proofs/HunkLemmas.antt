-- The rows of a hunk, one after another.
use Rattle.std.proofs.Common.{not, option_to_list, refl, Bool, Bor, IsSomeAnd, List, MatchBool, MatchOption, None, Option, Some, [], ap, append-nil, append_assoc, arith, drop, false, filter, get_or, if◌then◌else◌, inl, inr, is_some, length, map, min, nat_le, nat_lt, slice_get, subst, suc, sym, take, true, ℕ, ◌&&◌, ◌++◌, ◌+◌, ◌-◌, ◌<◌, ◌||◌, ◌∙◌, ◌∷◌, ◌≡◌, ◌≤◌, ◌⊎◌}
use Rattle.std.specs.List.{flat_map, list_any, sum_by}
use Rattle.std.proofs.lemmas.Bool.{cases_lt}
use Rattle.std.proofs.lemmas.Bool.Decides.{nat_tests}
use Rattle.std.proofs.lemmas.List.{drop_all, drop_more, length-map, length-append, take_all, take_more, drop-drop, length-take-le, take-append-drop}
use Rattle.excerpt_rows.specs.declared.hunk.HunkRow.{HunkRow}
use Rattle.excerpt_rows.specs.declared.hunk.Marked.{Marked}
use Rattle.excerpt_rows.specs.declared.hunk.Edit.{Edit}
use Rattle.excerpt_rows.specs.Ends.{is_blank}
use Rattle.std.proofs.lemmas.List.Sums.{sum_by-cons, sum_by_more}
use Rattle.std.proofs.lemmas.Option.{get_or_from_slice_get, slice_get_within}
use Rattle.excerpt_rows.specs.Expansion.{rules}
use Rattle.excerpt_rows.specs.declared.alignment.Alignment.{Alignment}
use Rattle.excerpt_rows.specs.declared.alignment.Shift.{Shift}
use Rattle.excerpt_rows.specs.declared.expansion.Rule.{Rule}
use Rattle.excerpt_rows.specs.Alignment.{HasNoAlignment, IsAlignment, IsOther, IsPrintedBy}
use Rattle.excerpt_rows.specs.Hunk.{Agrees, AreSteps, EditsAreDrawn, IsAligned, IsStep, IsSumOf, StepBy, covers, is_marked, left_of, middle, old_by, old_list, row_list, taken, taken_by}
use Rattle.std.specs.Option.{option_copied}
use Rattle.excerpt_rows.specs.declared.hunk.Sign.{Sign}
use Rattle.excerpt_rows.specs.declared.hunk.Sign.TheVariants.{Unsigned, Added, Removed, Changed}

pub steps_cons : (row : HunkRow) (rows : List HunkRow) (old new : ℕ) → AreSteps (row ∷ rows) old new → IsStep row old new × AreSteps rows (old + taken row) (new + length (row_list row))
unfolding AreSteps
steps_cons row rows old new so = so

pub cons_steps : (row : HunkRow) (rows : List HunkRow) (old new : ℕ) → IsStep row old new → AreSteps rows (old + taken row) (new + length (row_list row)) → AreSteps (row ∷ rows) old new
unfolding AreSteps
cons_steps row rows old new step so = (step, so)

pub no_steps : (old new : ℕ) → AreSteps [] old new
unfolding AreSteps
no_steps old new = tt

-- the rows from `k` on are steps where all are
pub record StepsSoFar (all : List HunkRow) (first k count given : ℕ) : Type 0 where
  pub forth : AreSteps all first first → AreSteps (drop k all) (first + count) (first + given)
  pub back : AreSteps (drop k all) (first + count) (first + given) → AreSteps all first first

same_numbers : (rows : List HunkRow) (first count new : ℕ) → count ≡ 0 → new ≡ 0 → AreSteps rows first first → AreSteps rows (first + count) (first + new)
same_numbers rows first count new none none_new so =
    let e : first ≡ first + count = omega (arith, none) in let f : first ≡ first + new = omega (arith, none_new) in
    subst (λ n. AreSteps rows (first + count) n) f (subst (λ n. AreSteps rows n first) e so)

back_numbers : (rows : List HunkRow) (first count new : ℕ) → count ≡ 0 → new ≡ 0 → AreSteps rows (first + count) (first + new) → AreSteps rows first first
back_numbers rows first count new none none_new so =
    let e : first + count ≡ first = omega (arith, none) in let f : first + new ≡ first = omega (arith, none_new) in
    subst (λ n. AreSteps rows first n) f (subst (λ n. AreSteps rows n (first + new)) e so)

pub steps_begin : (all : List HunkRow) (first count new : ℕ) → count ≡ 0 → new ≡ 0 → StepsSoFar all first 0 count new
steps_begin all first count new none none_new = record {
  forth = λ so. same_numbers all first count new none none_new so;
  back = λ so. back_numbers all first count new none none_new so;
}

left_is : (all : List HunkRow) (k : ℕ) (d : HunkRow) → k < length all → drop k all ≡ get_or all k d ∷ drop (k + 1) all
left_is all k d within = drop_more all k d within

pub steps_more : (all : List HunkRow) (first k count new count_more new_more len : ℕ) (d : HunkRow) → k < length all → len ≡ new
    → IsStep (get_or all k d) (first + count) (first + len) → count_more ≡ count + taken (get_or all k d) → new_more ≡ new + length (row_list (get_or all k d)) → StepsSoFar all first k count new → StepsSoFar all first (k + 1) count_more new_more
steps_more all first k count new count_more new_more len d within len_is step counts news so =
    let row = get_or all k d in
    let e : first + count + taken row ≡ first + count_more = omega (arith, counts) in
    let f : first + new + length (row_list row) ≡ first + new_more = omega (arith, news) in
    record {
      forth = λ whole.
          (let here = steps_cons row (drop (k + 1) all) (first + count) (first + new) (subst (λ (rows : List HunkRow). AreSteps rows (first + count) (first + new)) (left_is all k d within) (so.forth whole)) in
          subst (λ n. AreSteps (drop (k + 1) all) (first + count_more) n) f (subst (λ n. AreSteps (drop (k + 1) all) n (first + new + length (row_list row))) e here.1));
      back = λ left.
          so.back (subst (λ (rows : List HunkRow). AreSteps rows (first + count) (first + new)) (sym (left_is all k d within))
          (cons_steps row (drop (k + 1) all) (first + count) (first + new) (subst (λ n. IsStep row (first + count) (first + n)) len_is step)
          (subst (λ n. AreSteps (drop (k + 1) all) (first + count + taken row) n) (sym f) (subst (λ n. AreSteps (drop (k + 1) all) n (first + new_more)) (sym e) left))));
    }

pub steps_stop : (all : List HunkRow) (first k count new len : ℕ) (d : HunkRow) → k < length all → len ≡ new
    → (IsStep (get_or all k d) (first + count) (first + len) → ⊥) → StepsSoFar all first k count new → AreSteps all first first → ⊥
steps_stop all first k count new len d within len_is never so whole =
    never (subst (λ n. IsStep (get_or all k d) (first + count) (first + n)) (sym len_is)
    (steps_cons (get_or all k d) (drop (k + 1) all) (first + count) (first + new) (subst (λ (rows : List HunkRow). AreSteps rows (first + count) (first + new)) (left_is all k d within) (so.forth whole))).0)

pub steps_end : (all : List HunkRow) (first k count new : ℕ) → length all ≤ k → StepsSoFar all first k count new → AreSteps all first first
steps_end all first k count new past so = so.back (subst (λ (rows : List HunkRow). AreSteps rows (first + count) (first + new)) (sym (drop_all k all past)) (no_steps (first + count) (first + new)))

-- ---- marks

pub mark_end : (start k at end : ℕ) → (start ≤ k → k < at → k < end) → (start ≤ k → k < end → k < at) → (nat_le start k && nat_lt k at) ≡ (nat_le start k && nat_lt k end)
mark_end start k at end forth back = grind (arith, nat_tests)

pub mark_within : (start k at end len : ℕ) → start ≤ k → k < at → (start ≤ min end len → at ≤ min end len) → (min end len ≤ start → at ≤ start) → k < end
mark_within start k at end len low less some none =
    elim (cases_lt start (min end len)) [
      | inl inside ↦ omega (arith, some (omega (arith, inside)))
      | inr past ↦ absurd (omega (arith, none past))
    ]

-- ---- what comes of the rows

pub rows_len : (old new : List (Bor (List ℕ))) (xs : List (List ℕ)) → map (λ (r : Bor (List ℕ)). r.now) new ≡ map (λ (r : Bor (List ℕ)). r.now) old ++ xs → length new ≡ length old + length xs
rows_len old new xs is =
    sym (length-map new (λ (r : Bor (List ℕ)). r.now)) ∙ ap length is ∙ length-append (map (λ (r : Bor (List ℕ)). r.now) old) xs ∙ ap (λ n. n + length xs) (length-map old (λ (r : Bor (List ℕ)). r.now))

flat_push : (rows : List HunkRow) (row : HunkRow) → flat_map row_list (rows ++ row ∷ []) ≡ flat_map row_list rows ++ row_list row
flat_push [] row = append-nil (row_list row)
flat_push (first ∷ rows) row = ap (λ (xs : List (List ℕ)). row_list first ++ xs) (flat_push rows row) ∙ sym (append_assoc (row_list first) (flat_map row_list rows) (row_list row))

pub rows_more : (all : List HunkRow) (k : ℕ) (d : HunkRow) (old new xs : List (List ℕ)) → k < length all → new ≡ old ++ xs → xs ≡ row_list (get_or all k d) → old ≡ flat_map row_list (take k all) → new ≡ flat_map row_list (take (k + 1) all)
rows_more all k d old new xs within is xs_is so =
    is ∙ ap (λ (ys : List (List ℕ)). ys ++ xs) so ∙ ap (λ (ys : List (List ℕ)). flat_map row_list (take k all) ++ ys) xs_is
    ∙ sym (ap (flat_map row_list) (take_more all k d within) ∙ flat_push (take k all) (get_or all k d))

pub count_more : (all : List HunkRow) (k : ℕ) (d : HunkRow) (count n : ℕ) → k < length all → n ≡ taken (get_or all k d) → count ≡ sum_by taken (take k all) → count + n ≡ sum_by taken (take (k + 1) all)
count_more all k d count n within is so = omega (arith, is, so, sum_by_more taken all k d within)

pub sum_end : (all : List HunkRow) (k first : ℕ) (edit : Edit) → length all ≤ k → edit.first ≡ first → edit.count ≡ sum_by taken (take k all) → map (λ row. row.now) edit.rows.items ≡ flat_map row_list (take k all) → IsSumOf all first edit
sum_end all k first edit past at count rows_are = record {
  at = at;
  count = count ∙ ap (sum_by taken) (take_all k all past);
  rows_are = rows_are ∙ ap (flat_map row_list) (take_all k all past);
}

-- ---- unmarked characters

pub left_more : (marks : List Marked) (text : List ℕ) (k c : ℕ) (skipped : Bool) (old new whole : List ℕ) → k < length text → c ≡ get_or text k 0 → skipped ≡ (list_any (covers k) marks || is_blank c)
    → new ≡ old ++ (if skipped then [] else c ∷ []) → old ++ left_of marks k (drop k text) ≡ whole → new ++ left_of marks (k + 1) (drop (k + 1) text) ≡ whole
unfolding left_of
left_more marks text k c skipped old new whole within is tests new_is so =
    ap (λ (xs : List ℕ). xs ++ left_of marks (k + 1) (drop (k + 1) text)) new_is
    ∙ append_assoc old (if skipped then [] else c ∷ []) (left_of marks (k + 1) (drop (k + 1) text))
    ∙ ap (λ (b : Bool). old ++ ((if b then [] else c ∷ []) ++ left_of marks (k + 1) (drop (k + 1) text))) tests
    ∙ ap (λ (xs : List ℕ). old ++ left_of marks k xs) (ap (λ n. n ∷ drop (k + 1) text) is ∙ sym (drop_more text k 0 within)) ∙ so

pub left_end : (marks : List Marked) (text old whole : List ℕ) (k : ℕ) → length text ≤ k → old ++ left_of marks k (drop k text) ≡ whole → old ≡ whole
unfolding left_of
left_end marks text old whole k past so = sym (append-nil old) ∙ ap (λ (xs : List ℕ). old ++ left_of marks k xs) (sym (drop_all k text past)) ∙ so

pub flag_is : (flags : List Bool) (marks : List Marked) (k count c : ℕ) (flag skipped : Bool) → flag ≡ get_or flags k flag → length marks ≤ count → get_or flags k flag ≡ list_any (covers k) (take count marks)
    → skipped ≡ (flag || is_blank c) → skipped ≡ (list_any (covers k) marks || is_blank c)
flag_is flags marks k count c flag skipped there all each is =
    is ∙ ap (λ b. b || is_blank c) (there ∙ each ∙ ap (list_any (covers k)) (take_all count marks all))

-- ---- alignment

not_other : (rules : List Rule) (printed source : List ℕ) (rule : Rule) (shift : Shift) → IsOther rules printed source → IsPrintedBy rules printed source rule shift → ⊥
not_other rules printed source rule shift other by =
    elim by [
      | inl same ↦ other.differs same.0
      | inr first ↦ other.none first.1.at rule (slice_get_within rules first.1.at rule first.1.here) first.1.here shift first.1.laid
    ]

pub aligned_if : (found : Option Alignment) (yes : Bool) (printed source : List ℕ) → MatchOption found (HasNoAlignment printed source) (IsAlignment printed source) → yes ≡ is_some found
    → MatchBool yes (IsAligned printed source) (IsAligned printed source → ⊥)
aligned_if None true printed source so is = cc
aligned_if None false printed source so is = λ there. not_other rules printed source there.rule there.shift (so there.printed_short there.source_short) there.by
aligned_if (Some a) true printed source so is = record {
  printed_short = so.printed_short;
  source_short = so.source_short;
  rule = a.rule;
  shift = a.shift;
  by = so.rule;
}
aligned_if (Some a) false printed source so is = cc

-- ---- what an edit does

-- a row takes no row of the source, or the one with its number
abbrev Takes : ℕ → List (List ℕ) → HunkRow → ℕ → Type 0
Takes count olds row old = ((count ≡ 0) × (olds ≡ [])) ⊎ ((count ≡ 1) × (row.number ≡ Some old) × ((s : List ℕ) × ((olds ≡ s ∷ []) × (option_copied row.source ≡ Some s))))

some_source : (P : Bor (List ℕ) → Type 0) (source : Option (Bor (List ℕ))) → IsSomeAnd source P → (s : List ℕ) × ((option_to_list (option_copied source) ≡ s ∷ []) × (option_copied source ≡ Some s))
some_source P None so = absurd so
some_source P (Some s) so = (s.now, (refl, refl))

either : {A B X : Type 0} (b : Bool) → MatchBool b A B → (A → X) → (B → X) → X
either true so f g = f so
either false so f g = g so

takes_by : (sign : Sign) (row : HunkRow) (old new : ℕ) → StepBy sign row old new → Takes (taken_by sign) (old_by sign row) row old
takes_by Unsigned row old new so =
    inr (
      refl,
      so.0,
      either (is_marked row) so.1
          (λ restores. some_source (λ source. left_of row.marks.now 0 row.text.now ≡ filter (λ c. not (is_blank c)) source.now) row.source restores)
          (λ same. some_source (λ source. IsAligned row.text.now source.now) row.source same),
    )
takes_by Added row old new so = inl (refl, refl)
takes_by Removed row old new so = inr (refl, so.0, some_source (λ source. IsAligned row.text.now source.now) row.source so.1)
takes_by Changed row old new so = absurd so

agrees_rest : (row : HunkRow) (rows : List HunkRow) (source : List (List ℕ)) → Agrees (row ∷ rows) source → Agrees rows source
agrees_rest row rows source so = λ k other number there is. so (suc k) other number there is

-- the rows that a hunk takes are those of the source from the first number on
old_side : (rows : List HunkRow) (old new : ℕ) (source : List (List ℕ)) → AreSteps rows old new → Agrees rows source → 0 < old → flat_map old_list rows ≡ take (sum_by taken rows) (drop (old - 1) source)
old_side [] old new source steps so some = refl
old_side (row ∷ rows) old new source steps so some =
    let here = steps_cons row rows old new steps in
    let rest = old_side rows (old + taken row) (new + length (row_list row)) source here.1 (agrees_rest row rows source so) (omega (arith, some)) in
    let count : sum_by taken (row ∷ rows) ≡ taken row + sum_by taken rows = sum_by-cons taken row rows in
    elim (takes_by row.sign row old new here.0) [
      | inl none ↦
          (let e : old + taken row - 1 ≡ old - 1 = omega (arith, none.0) in
          let f : sum_by taken rows ≡ sum_by taken (row ∷ rows) = omega (arith, count, none.0) in
          ap (λ (xs : List (List ℕ)). xs ++ flat_map old_list rows) none.1 ∙ rest ∙ ap (λ n. take (sum_by taken rows) (drop n source)) e ∙ ap (λ n. take n (drop (old - 1) source)) f)
      | inr one ↦
          (let s = one.2.0 in
          let there : slice_get source (old - 1) ≡ Some s = sym (so 0 row old refl one.1) ∙ one.2.1.1 in
          let within : old - 1 < length source = slice_get_within source (old - 1) s there in
          let next : old + taken row - 1 ≡ old - 1 + 1 = omega (arith, one.0, some) in
          let split : drop (old - 1) source ≡ s ∷ drop (old - 1 + 1) source =
          drop_more source (old - 1) s within ∙ ap (λ (x : List ℕ). x ∷ drop (old - 1 + 1) source) (get_or_from_slice_get source (old - 1) s s there) in
          let f : suc (sum_by taken rows) ≡ sum_by taken (row ∷ rows) = omega (arith, count, one.0) in
          ap (λ (xs : List (List ℕ)). xs ++ flat_map old_list rows) one.2.1.0 ∙ ap (λ (xs : List (List ℕ)). s ∷ xs) (rest ∙ ap (λ n. take (sum_by taken rows) (drop n source)) next)
          ∙ ap (take (suc (sum_by taken rows))) (sym split) ∙ ap (λ n. take n (drop (old - 1) source)) f)
    ]

parts_are : (source : List (List ℕ)) (n count : ℕ) → take n source ++ take count (drop n source) ++ drop (n + count) source ≡ source
parts_are source n count =
    append_assoc (take n source) (take count (drop n source)) (drop (n + count) source)
    ∙ ap (λ (xs : List (List ℕ)). take n source ++ xs) (ap (λ (xs : List (List ℕ)). take count (drop n source) ++ xs) (sym (drop-drop count n source)) ∙ take-append-drop count (drop n source))
    ∙ take-append-drop n source

pub edits_are_drawn : EditsAreDrawn
edits_are_drawn rows edit source is so within =
    let first = edit.first in
    let some : 0 < first = is.placed.numbered in
    record {
      before = take (first - 1) source;
      after = drop (first - 1 + edit.count) source;
      at = (let size : length (take (first - 1) source) ≡ first - 1 = length-take-le (first - 1) source (omega (arith, within)) in omega (arith, size, some));
      was =
          ap (λ (xs : List (List ℕ)). take (first - 1) source ++ xs ++ drop (first - 1 + edit.count) source)
          (old_side (middle rows) first first source is.placed.steps so some ∙ ap (λ n. take n (drop (first - 1) source)) (sym is.sum.count))
          ∙ parts_are source (first - 1) edit.count;
      becomes = ap (λ (xs : List (List ℕ)). take (first - 1) source ++ xs ++ drop (first - 1 + edit.count) source) (sym is.sum.rows_are);
    }

-- A longer baseline takes no fewer findings.
use Rattle.std.proofs.Common.{◌≡◌, ℕ, ◌+◌, ◌-◌, ◌<◌, ◌≤◌, nat_lt, Bool, true, false, not, List, [], ◌∷◌, ◌++◌, length, Option, Some, None, refl, sym, ap, ◌∙◌, arith, subst}
use Rattle.std.proofs.lemmas.Bool.{false≢true, lt-ltb, ltb-true}
use Rattle.std.proofs.lemmas.List.Elements.{All-head, All-tail}
use Rattle.finding_filters.specs.Baseline.{ItemParts, Left, asked_in, asks, entries_in, known, left_by, less, offered, one_of, same, taken_away, taken_by}
use Rattle.finding_laws.specs.Baselines.Entries.{StayTaken, TellKinds, TellsKind}
use Rattle.finding_filters.specs.declared.baseline.Round.{Round}
use Rattle.finding_filters.specs.declared.baseline.Round.TheVariants.{SameRow, NoRow, Rest}
use Rattle.finding_laws.proofs.BaselineLemmas.Greedy.{Weight, asking, asks_if, away_is, by_class, if_open, of_kind, open_by, rest, stay_again, took, turns, turns_open, turns_stay, weight}
use Rattle.finding_laws.proofs.BaselineLemmas.Own.{class_if, count, entries_sum, kind_parts, known_is, offer, open_classes, open_total, row_kind, rounds, rows_by, rows_told, sum_of, told_kind, total, total_less}

-- ---- with more entries, and more that is taken before, more is taken

less_more : (left those : Left) (class : Option (List ℕ)) (q : List ℕ) → ((q : List ℕ) → left q ≤ those q) → left_by left class q ≤ left_by those class q
unfolding less
less_more left those None q below = below q
less_more left those (Some class) q below = omega (arith, below q)

less_than : (left those : Left) (class : Option (List ℕ)) (q : List ℕ) → ((q : List ℕ) → left q ≤ those q) → left_by left class q ≤ those q
unfolding less
less_than left those None q below = below q
less_than left those (Some class) q below = omega (arith, below q)

class_stay : (left those : Left) (class : Option (List ℕ)) → ((q : List ℕ) → left q ≤ those q) → taken_by left false class ≡ true → taken_by those false class ≡ true
class_stay left those None below is = is
class_stay left those (Some class) below is = lt-ltb 0 (those class) (omega (arith, ltb-true 0 (left class) is, below class))

flag_stay : (left those : Left) (round : Round) (late : Bool) (it : ItemParts) (was is : Bool) → (was ≡ true → is ≡ true) → ((q : List ℕ) → left q ≤ those q)
    → taken_by left was (asks round late it was) ≡ true → taken_by those is (asks round late it is) ≡ true
flag_stay left those round late it was true stay below said = refl
flag_stay left those round late it true false stay below said = absurd (false≢true (stay refl))
flag_stay left those round late it false false stay below said = class_stay left those (asks round late it false) below said

flag_left : (left those : Left) (round : Round) (late : Bool) (it : ItemParts) (was is : Bool) (q : List ℕ) → (was ≡ true → is ≡ true) → ((q : List ℕ) → left q ≤ those q)
    → left_by left (asks round late it was) q ≤ left_by those (asks round late it is) q
flag_left left those round late it true true q stay below = below q
flag_left left those round late it true false q stay below = absurd (false≢true (stay refl))
flag_left left those round late it false true q stay below = less_than left those (asks round late it false) q below
flag_left left those round late it false false q stay below = less_more left those (asks round late it false) q below

took_more : (round : Round) (late : Bool) (items : List ItemParts) (flags others : List Bool) (left those : Left) → StayTaken flags others → ((q : List ℕ) → left q ≤ those q)
    → StayTaken (took round late items flags left) (took round late items others those)
took_more round late [] flags others left those stay below = tt
took_more round late (it ∷ items) [] [] left those stay below = tt
took_more round late (it ∷ items) [] (is ∷ others) left those stay below = absurd stay
took_more round late (it ∷ items) (was ∷ flags) [] left those stay below = absurd stay
took_more round late (it ∷ items) (was ∷ flags) (is ∷ others) left those stay below = (
  flag_stay left those round late it was is stay.0 below,
  took_more round late items flags others (left_by left (asks round late it was)) (left_by those (asks round late it is)) stay.1
      (λ q. flag_left left those round late it was is q stay.0 below),
)

rest_more : (round : Round) (late : Bool) (items : List ItemParts) (flags others : List Bool) (left those : Left) (q : List ℕ) → StayTaken flags others → ((q : List ℕ) → left q ≤ those q)
    → rest round late items flags left q ≤ rest round late items others those q
rest_more round late [] flags others left those q stay below = below q
rest_more round late (it ∷ items) [] [] left those q stay below = below q
rest_more round late (it ∷ items) [] (is ∷ others) left those q stay below = absurd stay
rest_more round late (it ∷ items) (was ∷ flags) [] left those q stay below = absurd stay
rest_more round late (it ∷ items) (was ∷ flags) (is ∷ others) left those q stay below =
    rest_more round late items flags others (left_by left (asks round late it was)) (left_by those (asks round late it is)) q stay.1
    (λ q. flag_left left those round late it was is q stay.0 below)

turns_more : (round : Round) (items : List ItemParts) (flags others : List Bool) (left those : Left) → StayTaken flags others → ((q : List ℕ) → left q ≤ those q)
    → StayTaken (turns round items flags left) (turns round items others those)
turns_more round items flags others left those stay below =
    took_more round true items (took round false items flags left) (took round false items others those) (rest round false items flags left) (rest round false items others those)
    (took_more round false items flags others left those stay below) (λ q. rest_more round false items flags others left those q stay below)

-- ---- more entries

sum_more : (w : Weight) (entries more : List ItemParts) → sum_of w (entries ++ more) ≡ sum_of w entries + sum_of w more
sum_more w [] more = omega arith
sum_more w (entry ∷ entries) more = omega (arith, sum_more w entries more)

entries_more : (round : Round) (entries more : List ItemParts) (q : List ℕ) → entries_in round (entries ++ more) q ≡ entries_in round entries q + sum_of (offer round q) more
entries_more round entries more q =
    omega (arith, entries_sum round (entries ++ more) q, entries_sum round entries q, sum_more (offer round q) entries more)

abbrev with_classes : List ItemParts → List (List ℕ) → List (List ℕ)
with_classes [] classes = classes
with_classes (entry ∷ more) classes = class_if false entry.class (with_classes more classes)

one_more_class : (f : List ℕ → ℕ) (class : Option (List ℕ)) (classes : List (List ℕ)) → total f (class_if false class classes) ≡ by_class f class + total f classes
one_more_class f None classes = omega arith
one_more_class f (Some class) classes = refl

more_total : (f : List ℕ → ℕ) (more : List ItemParts) (classes : List (List ℕ)) → total f (with_classes more classes) ≡ sum_of (rows_by f) more + total f classes
more_total f [] classes = omega arith
more_total f (entry ∷ more) classes = omega (arith, one_more_class f entry.class (with_classes more classes), more_total f more classes)

offered_row : (q kind : List ℕ) (class : Option (List ℕ)) → by_class (λ it. one_of kind q) class ≡ weight q (offered NoRow kind class)
offered_row q kind None = refl
offered_row q kind (Some class) = refl

more_told : (kind_in : List ℕ → List ℕ) (q : List ℕ) (more : List ItemParts) → TellKinds kind_in more
    → sum_of (rows_by (λ class. one_of (kind_in class) q)) more ≡ sum_of (offer NoRow q) more
more_told kind_in q [] told = refl
more_told kind_in q (entry ∷ more) told =
    omega (
      arith,
      told_kind kind_in q entry.kind entry.class (All-head (TellsKind kind_in) entry more told),
      offered_row q entry.kind entry.class,
      more_told kind_in q more (All-tail (TellsKind kind_in) entry more told),
    )

-- ---- the first round takes none without a row

if_rowless : (left : Left) (turn : Bool) (q kind : List ℕ) (class : Option (List ℕ))
    → if_open (taken_by left false (asks_if turn class)) (weight q (asked_in NoRow kind class)) ≡ weight q (asked_in NoRow kind class)
if_rowless left true q kind None = refl
if_rowless left false q kind None = refl
if_rowless left true q kind (Some class) = none (nat_lt 0 (left class))
  where
    none : (said : Bool) → if_open said 0 ≡ 0
    none true = refl
    none false = refl
if_rowless left false q kind (Some class) = refl

took_rowless : (q : List ℕ) (late : Bool) (items : List ItemParts) (flags : List Bool) (left : Left)
    → open_by (asking NoRow q) items (took SameRow late items flags left) ≡ open_by (asking NoRow q) items flags
took_rowless q late [] flags left = refl
took_rowless q late (it ∷ items) [] left = refl
took_rowless q late (it ∷ items) (true ∷ flags) left = omega (arith, took_rowless q late items flags left)
took_rowless q late (it ∷ items) (false ∷ flags) left =
    omega (arith, if_rowless left (same it.late late) q it.kind it.class, took_rowless q late items flags (left_by left (asks SameRow late it false)))

turns_rowless : (q : List ℕ) (items : List ItemParts) (flags : List Bool) (left : Left)
    → open_by (asking NoRow q) items (turns SameRow items flags left) ≡ open_by (asking NoRow q) items flags
turns_rowless q items flags left =
    took_rowless q true items (took SameRow false items flags left) (rest SameRow false items flags left) ∙ took_rowless q false items flags left

-- ---- the rounds

module _ (kind_in : List ℕ → List ℕ) (items : List ItemParts) (flags : List Bool) (entries more : List ItemParts) (told : TellKinds kind_in items) (told_more : TellKinds kind_in more)
    (long : length flags ≡ length items) where
  abbrev first_by : List ItemParts → List Bool
  first_by those = turns SameRow items flags (entries_in SameRow those)

  abbrev away_by : List ItemParts → Left
  away_by those = taken_away (entries_in NoRow those) items flags (first_by those)

  first_more : StayTaken (first_by entries) (first_by (entries ++ more))
  first_more =
      turns_more SameRow items flags flags (entries_in SameRow entries) (entries_in SameRow (entries ++ more)) (stay_again flags)
      (λ q. omega (arith, entries_more SameRow entries more q))

  -- of each class no more findings are taken than entries came
  first_classes : (q : List ℕ) → count q (open_classes items (first_by entries)) ≤ count q (with_classes more (open_classes items (first_by (entries ++ more))))
  first_classes q =
      let f = λ (class : List ℕ). one_of class q in
      let few : open_by (asking SameRow q) items (first_by entries) ≡ open_by (asking SameRow q) items flags - entries_in SameRow entries q = turns_open SameRow q items flags (entries_in SameRow entries) in
      let many : open_by (asking SameRow q) items (first_by (entries ++ more)) ≡ open_by (asking SameRow q) items flags - entries_in SameRow (entries ++ more) q =
      turns_open SameRow q items flags (entries_in SameRow (entries ++ more)) in
      let those : count q (open_classes items (first_by entries)) ≡ open_by (asking SameRow q) items (first_by entries) = open_total f items (first_by entries) in
      let others : count q (open_classes items (first_by (entries ++ more))) ≡ open_by (asking SameRow q) items (first_by (entries ++ more)) = open_total f items (first_by (entries ++ more)) in
      let all : count q (with_classes more (open_classes items (first_by (entries ++ more)))) ≡ sum_of (offer SameRow q) more + count q (open_classes items (first_by (entries ++ more))) =
      more_total f more (open_classes items (first_by (entries ++ more))) in
      omega (arith, few, many, those, others, all, entries_more SameRow entries more q)

  first_rows : (q : List ℕ) → open_by (row_kind q) items (first_by entries) ≤ sum_of (offer NoRow q) more + open_by (row_kind q) items (first_by (entries ++ more))
  first_rows q =
      let f = λ (class : List ℕ). one_of (kind_in class) q in
      let after = first_by (entries ++ more) in
      omega (
        arith,
        total_less f (open_classes items (first_by entries)) (with_classes more (open_classes items after)) first_classes,
        open_total f items (first_by entries),
        open_total f items after,
        more_total f more (open_classes items after),
        rows_told kind_in q items (first_by entries) told,
        rows_told kind_in q items after told,
        more_told kind_in q more told_more,
      )

  away_more : (q : List ℕ) → away_by entries q ≤ away_by (entries ++ more) q
  away_more q =
      let after = first_by (entries ++ more) in
      let few : away_by entries q ≡ entries_in NoRow entries q - (open_by (of_kind q) items flags - open_by (of_kind q) items (first_by entries)) =
      away_is q (entries_in NoRow entries) items flags (first_by entries) (turns_stay SameRow items flags (entries_in SameRow entries) long) in
      let many : away_by (entries ++ more) q ≡ entries_in NoRow (entries ++ more) q - (open_by (of_kind q) items flags - open_by (of_kind q) items after) =
      away_is q (entries_in NoRow (entries ++ more)) items flags after (turns_stay SameRow items flags (entries_in SameRow (entries ++ more)) long) in
      omega (
        arith,
        few,
        many,
        entries_more NoRow entries more q,
        kind_parts q items (first_by entries),
        kind_parts q items after,
        turns_rowless q items flags (entries_in SameRow entries),
        turns_rowless q items flags (entries_in SameRow (entries ++ more)),
        first_rows q,
      )

  second_more : StayTaken (turns NoRow items (first_by entries) (away_by entries)) (turns NoRow items (first_by (entries ++ more)) (away_by (entries ++ more)))
  second_more = turns_more NoRow items (first_by entries) (first_by (entries ++ more)) (away_by entries) (away_by (entries ++ more)) first_more away_more

  rounds_more : StayTaken (rounds items flags entries) (rounds items flags (entries ++ more))
  rounds_more =
      turns_more Rest items (turns NoRow items (first_by entries) (away_by entries)) (turns NoRow items (first_by (entries ++ more)) (away_by (entries ++ more)))
      (entries_in Rest entries) (entries_in Rest (entries ++ more)) second_more (λ q. omega (arith, entries_more Rest entries more q))

pub longer_known : (kind_in : List ℕ → List ℕ) (items : List ItemParts) (flags : List Bool) (entries more : List ItemParts) → TellKinds kind_in items → TellKinds kind_in more
    → length flags ≡ length items → StayTaken (known items flags entries) (known items flags (entries ++ more))
longer_known kind_in items flags entries more told told_more long =
    subst (λ (those : List Bool). StayTaken those (known items flags (entries ++ more))) (sym (known_is items flags entries))
    (subst (λ (those : List Bool). StayTaken (rounds items flags entries) those) (sym (known_is items flags (entries ++ more)))
    (rounds_more kind_in items flags entries more told told_more long))

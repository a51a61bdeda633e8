-- Rounds that take nothing, and what a round leaves of those that come last.
use Rattle.std.proofs.Common.{◌≡◌, ◌⊎◌, inl, inr, ℕ, ◌+◌, ◌-◌, ◌≤◌, min, ◌||◌, not, Bool, true, false, if◌then◌else◌, List, [], ◌∷◌, length, Option, Some, None, refl, sym, ap, ◌∙◌, arith}
use Rattle.std.specs.List.{All}
use Rattle.std.proofs.lemmas.Bool.{le-ltb}
use Rattle.std.proofs.lemmas.List.Elements.{All-head, All-tail}
use Rattle.finding_filters.specs.Baseline.{ItemParts, Left, asked, asks, entries_in, known, left_by, less, same, taken_away, taken_by}
use Rattle.finding_filters.specs.declared.baseline.Round.{Round}
use Rattle.finding_filters.specs.declared.baseline.Round.TheVariants.{SameRow, NoRow, Rest}
use Rattle.finding_laws.specs.Baselines.Entries.{StayTaken}
use Rattle.finding_laws.proofs.BaselineLemmas.Greedy.{Weight, asking, asking_in, if_open, open_by, open_parts, rest, rest_left, stay_on, took, took_open, took_others, turns, turns_length, turns_stay}
use Rattle.finding_laws.proofs.BaselineLemmas.Own.{known_is}

-- of those that come last and ask for a class, the lesser is left of all of them and of those for whom there are too few entries
pub late_open : (round : Round) (q : List ℕ) (items : List ItemParts) (flags : List Bool) (left : Left)
    → open_by (asking_in round q true) items (turns round items flags left) ≡ min (open_by (asking_in round q true) items flags) (open_by (asking round q) items flags - left q)
late_open round q items flags left =
    let early = took round false items flags left in
    let kept = rest round false items flags left in
    let before : open_by (asking_in round q true) items early ≡ open_by (asking_in round q true) items flags = took_others round false q items flags left in
    omega (arith, before, took_open round true q items early kept, rest_left round false q items flags left, open_parts round q items flags)

-- ---- rounds in which nothing is taken

quiet_flag : (left : Left) (flag turn : Bool) (class : Option (List ℕ)) → class ≡ None → taken_by left flag (if flag || not turn then None else class) ≡ flag
quiet_flag left true turn class none = refl
quiet_flag left false true class none = ap (λ (it : Option (List ℕ)). taken_by left false it) none
quiet_flag left false false class none = refl

quiet_left : (left : Left) (flag turn : Bool) (class : Option (List ℕ)) → class ≡ None → left_by left (if flag || not turn then None else class) ≡ left
quiet_left left true turn class none = refl
quiet_left left false true class none = ap (λ (it : Option (List ℕ)). left_by left it) none
quiet_left left false false class none = refl

took_quiet : (round : Round) (late : Bool) (items : List ItemParts) (flags : List Bool) (left : Left) → length flags ≡ length items → All (λ it. asked round it ≡ None) items
    → took round late items flags left ≡ flags
took_quiet round late [] [] left long none = refl
took_quiet round late [] (flag ∷ flags) left long none = absurd (omega arith)
took_quiet round late (it ∷ items) [] left long none = absurd (omega arith)
took_quiet round late (it ∷ items) (flag ∷ flags) left long none =
    let here = All-head (λ it. asked round it ≡ None) it items none in
    ap (λ (said : Bool). said ∷ took round late items flags (left_by left (asks round late it flag))) (quiet_flag left flag (same it.late late) (asked round it) here)
    ∙ ap (λ (those : Left). flag ∷ took round late items flags those) (quiet_left left flag (same it.late late) (asked round it) here)
    ∙ ap (λ (those : List Bool). flag ∷ those) (took_quiet round late items flags left (omega arith) (All-tail (λ it. asked round it ≡ None) it items none))

pub turns_quiet : (round : Round) (items : List ItemParts) (flags : List Bool) (left : Left) → length flags ≡ length items → All (λ it. asked round it ≡ None) items
    → turns round items flags left ≡ flags
turns_quiet round items flags left long none =
    ap (λ (early : List Bool). took round true items early (rest round false items flags left)) (took_quiet round false items flags left long none)
    ∙ took_quiet round true items flags (rest round false items flags left) long none

empty_flag : (left : Left) (flag : Bool) (class : Option (List ℕ)) → ((q : List ℕ) → left q ≡ 0) → (flag ≡ true → class ≡ None) → taken_by left flag class ≡ flag
empty_flag left flag None empty unless = refl
empty_flag left true (Some class) empty unless = absurd (none (unless refl))
  where
    none : Some class ≡ None → ⊥
    none is = cc
empty_flag left false (Some class) empty unless = le-ltb 0 (left class) (omega (arith, empty class))

empty_left : (left : Left) (class : Option (List ℕ)) → ((q : List ℕ) → left q ≡ 0) → (q : List ℕ) → left_by left class q ≡ 0
unfolding less
empty_left left None empty q = empty q
empty_left left (Some class) empty q = omega (arith, empty q)

asks_none : (round : Round) (late : Bool) (it : ItemParts) (flag : Bool) → flag ≡ true → asks round late it flag ≡ None
asks_none round late it flag is = ap (λ (said : Bool). if said || not (same it.late late) then None else asked round it) is

took_empty : (round : Round) (late : Bool) (items : List ItemParts) (flags : List Bool) (left : Left) → length flags ≡ length items → ((q : List ℕ) → left q ≡ 0)
    → took round late items flags left ≡ flags
took_empty round late [] [] left long empty = refl
took_empty round late [] (flag ∷ flags) left long empty = absurd (omega arith)
took_empty round late (it ∷ items) [] left long empty = absurd (omega arith)
took_empty round late (it ∷ items) (flag ∷ flags) left long empty =
    ap (λ (said : Bool). said ∷ took round late items flags (left_by left (asks round late it flag))) (empty_flag left flag (asks round late it flag) empty (asks_none round late it flag))
    ∙ ap (λ (those : List Bool). flag ∷ those) (took_empty round late items flags (left_by left (asks round late it flag)) (omega arith) (empty_left left (asks round late it flag) empty))

rest_empty : (round : Round) (late : Bool) (items : List ItemParts) (flags : List Bool) (left : Left) → ((q : List ℕ) → left q ≡ 0) → (q : List ℕ) → rest round late items flags left q ≡ 0
rest_empty round late items flags left empty q = omega (arith, rest_left round late q items flags left, empty q)

pub turns_empty : (round : Round) (items : List ItemParts) (flags : List Bool) (left : Left) → length flags ≡ length items → ((q : List ℕ) → left q ≡ 0) → turns round items flags left ≡ flags
turns_empty round items flags left long empty =
    ap (λ (early : List Bool). took round true items early (rest round false items flags left)) (took_empty round false items flags left long empty)
    ∙ took_empty round true items flags (rest round false items flags left) long (rest_empty round false items flags left empty)

-- ---- what a round doesn't ask for stays open

if_zero : (flag : Bool) (n : ℕ) → n ≡ 0 → if_open flag n ≡ n
if_zero true n is = sym is
if_zero false n is = refl

-- a round asks nothing of it, or it has no weight
abbrev pub Untouched : Weight → Round → ItemParts → Type 0
Untouched w round it = (asked round it ≡ None) ⊎ (w it ≡ 0)

kept_flag : (w : Weight) (round : Round) (left : Left) (late : Bool) (it : ItemParts) → Untouched w round it → if_open (taken_by left false (asks round late it false)) (w it) ≡ w it
kept_flag w round left late it (inl none) = ap (λ (said : Bool). if_open said (w it)) (quiet_flag left false (same it.late late) (asked round it) none)
kept_flag w round left late it (inr is) = if_zero (taken_by left false (asks round late it false)) (w it) is

took_kept : (w : Weight) (round : Round) (late : Bool) (items : List ItemParts) (flags : List Bool) (left : Left) → ((it : ItemParts) → Untouched w round it)
    → open_by w items (took round late items flags left) ≡ open_by w items flags
took_kept w round late [] flags left kept = refl
took_kept w round late (it ∷ items) [] left kept = refl
took_kept w round late (it ∷ items) (true ∷ flags) left kept = omega (arith, took_kept w round late items flags left kept)
took_kept w round late (it ∷ items) (false ∷ flags) left kept =
    omega (arith, kept_flag w round left late it (kept it), took_kept w round late items flags (left_by left (asks round late it false)) kept)

pub turns_kept : (w : Weight) (round : Round) (items : List ItemParts) (flags : List Bool) (left : Left) → ((it : ItemParts) → Untouched w round it)
    → open_by w items (turns round items flags left) ≡ open_by w items flags
turns_kept w round items flags left kept =
    took_kept w round true items (took round false items flags left) (rest round false items flags left) kept ∙ took_kept w round false items flags left kept

-- ---- the rounds one by one

abbrev pub first_by : List ItemParts → List Bool → List ItemParts → List Bool
first_by items flags entries = turns SameRow items flags (entries_in SameRow entries)

abbrev pub away_by : List ItemParts → List Bool → List ItemParts → Left
away_by items flags entries = taken_away (entries_in NoRow entries) items flags (first_by items flags entries)

abbrev pub second_by : List ItemParts → List Bool → List ItemParts → List Bool
second_by items flags entries = turns NoRow items (first_by items flags entries) (away_by items flags entries)

abbrev pub third_by : List ItemParts → List Bool → List ItemParts → List Bool
third_by items flags entries = turns Rest items (second_by items flags entries) (entries_in Rest entries)

pub first_long : (items : List ItemParts) (flags : List Bool) (entries : List ItemParts) → length flags ≡ length items → length (first_by items flags entries) ≡ length items
first_long items flags entries long = turns_length SameRow items flags (entries_in SameRow entries) long

pub second_long : (items : List ItemParts) (flags : List Bool) (entries : List ItemParts) → length flags ≡ length items → length (second_by items flags entries) ≡ length items
second_long items flags entries long =
    turns_length NoRow items (first_by items flags entries) (away_by items flags entries) (first_long items flags entries long)

pub third_stay : (items : List ItemParts) (flags : List Bool) (entries : List ItemParts) → length flags ≡ length items → StayTaken flags (third_by items flags entries)
third_stay items flags entries long =
    let first = first_by items flags entries in
    let second = second_by items flags entries in
    stay_on flags first (third_by items flags entries) (turns_stay SameRow items flags (entries_in SameRow entries) long)
    (stay_on first second (third_by items flags entries) (turns_stay NoRow items first (away_by items flags entries) (first_long items flags entries long))
    (turns_stay Rest items second (entries_in Rest entries) (second_long items flags entries long)))

-- without entries that lack a row, the last round takes nothing
pub third_quiet : (items : List ItemParts) (flags : List Bool) (entries : List ItemParts) → length flags ≡ length items → ((q : List ℕ) → entries_in Rest entries q ≡ 0)
    → third_by items flags entries ≡ second_by items flags entries
third_quiet items flags entries long none =
    turns_empty Rest items (second_by items flags entries) (entries_in Rest entries) (second_long items flags entries long) none

-- What a round takes: of each class as many findings as it has entries.
use Rattle.std.proofs.Common.{◌≡◌, ℕ, ◌+◌, ◌-◌, ◌≤◌, nat_lt, Bool, true, false, not, if◌then◌else◌, List, [], ◌∷◌, ◌++◌, length, Option, Some, None, refl, sym, ap, ◌∙◌, arith, append_assoc}
use Rattle.std.specs.Str.{bytes_eq}
use Rattle.std.proofs.lemmas.Bool.{false≢true, ltb-false, ltb-true}
use Rattle.std.proofs.lemmas.List.{append-nil}
use Rattle.std.proofs.lemmas.Slice.Eq.{bytes_eq-Decides}
use Rattle.finding_filters.specs.Baseline.{ItemParts, Left, Passed, asked, asks, left_by, less, one_of, passed, same, taken_away, taken_by, then_late, turned}
use Rattle.finding_laws.specs.Baselines.Entries.{StayTaken}
use Rattle.finding_filters.specs.declared.baseline.Round.{Round}

-- ---- a turn and a round, by what they give

abbrev pub took : Round → Bool → List ItemParts → List Bool → Left → List Bool
took round late [] flags left = []
took round late (it ∷ items) [] left = []
took round late (it ∷ items) (flag ∷ flags) left =
    taken_by left flag (asks round late it flag) ∷ took round late items flags (left_by left (asks round late it flag))

abbrev pub rest : Round → Bool → List ItemParts → List Bool → Left → Left
rest round late [] flags left = left
rest round late (it ∷ items) [] left = left
rest round late (it ∷ items) (flag ∷ flags) left = rest round late items flags (left_by left (asks round late it flag))

passed_is : (round : Round) (late : Bool) (done : List Bool) (items : List ItemParts) (flags : List Bool) (left : Left)
    → passed round late done items flags left ≡ record { taken = done ++ took round late items flags left; left = rest round late items flags left }
passed_is round late done [] flags left = ap (λ (taken : List Bool). record { taken = taken; left = left }) (sym (append-nil done))
passed_is round late done (it ∷ items) [] left = ap (λ (taken : List Bool). record { taken = taken; left = left }) (sym (append-nil done))
passed_is round late done (it ∷ items) (flag ∷ flags) left =
    passed_is round late (done ++ taken_by left flag (asks round late it flag) ∷ []) items flags (left_by left (asks round late it flag))
    ∙ ap (λ (taken : List Bool). record { taken = taken; left = rest round late items flags (left_by left (asks round late it flag)) })
    (append_assoc done (taken_by left flag (asks round late it flag) ∷ []) (took round late items flags (left_by left (asks round late it flag))))

-- those that aren't late, and then those that are
abbrev pub turns : Round → List ItemParts → List Bool → Left → List Bool
turns round items flags left = took round true items (took round false items flags left) (rest round false items flags left)

pub turned_is : (round : Round) (items : List ItemParts) (flags : List Bool) (left : Left) → turned round items flags left ≡ turns round items flags left
unfolding turned
turned_is round items flags left =
    ap (then_late round items) (passed_is round false [] items flags left)
    ∙ ap (λ (it : Passed). it.taken) (passed_is round true [] items (took round false items flags left) (rest round false items flags left))

-- ---- how much is open: the weights of those that aren't taken

abbrev pub Weight : Type 0
Weight = ItemParts → ℕ

abbrev pub if_open : Bool → ℕ → ℕ
if_open true n = 0
if_open false n = n

abbrev pub open_by : Weight → List ItemParts → List Bool → ℕ
open_by w [] flags = 0
open_by w (it ∷ items) [] = 0
open_by w (it ∷ items) (flag ∷ flags) = if_open flag (w it) + open_by w items flags

abbrev pub by_class : (List ℕ → ℕ) → Option (List ℕ) → ℕ
by_class f None = 0
by_class f (Some class) = f class

-- whether a class is this one, as a number
abbrev pub weight : List ℕ → Option (List ℕ) → ℕ
weight q class = by_class (λ it. one_of it q) class

-- one that asks for a class in a round
abbrev pub asking : Round → List ℕ → Weight
asking round q it = weight q (asked round it)

abbrev pub in_turn : Bool → ℕ → ℕ
in_turn true n = n
in_turn false n = 0

-- and is in turn
abbrev pub asking_in : Round → List ℕ → Bool → Weight
asking_in round q late it = in_turn (same it.late late) (asking round q it)

-- ---- one that asks

step_over : (here said : Bool) (lc lq n : ℕ) → (here ≡ true → lc ≡ lq) → nat_lt 0 lc ≡ said
    → if_open said (if here then 1 else 0) + (n - (lq - (if here then 1 else 0))) ≡ ((if here then 1 else 0) + n) - lq
step_over true true lc lq n alike test = omega (arith, ltb-true 0 lc test, alike refl)
step_over true false lc lq n alike test = omega (arith, ltb-false 0 lc test, alike refl)
step_over false true lc lq n alike test = omega arith
step_over false false lc lq n alike test = omega arith

open_step : (left : Left) (class : Option (List ℕ)) (q : List ℕ) (n : ℕ)
    → if_open (taken_by left false class) (weight q class) + (n - left_by left class q) ≡ (weight q class + n) - left q
unfolding less
open_step left None q n = omega arith
open_step left (Some class) q n =
    step_over (bytes_eq class q) (nat_lt 0 (left class)) (left class) (left q) n (λ here. ap left ((bytes_eq-Decides class q).0 here)) refl

left_step : (left : Left) (class : Option (List ℕ)) (q : List ℕ) (n : ℕ) → left_by left class q - n ≡ left q - (weight q class + n)
unfolding less
left_step left None q n = omega arith
left_step left (Some class) q n = omega arith

abbrev pub asks_if : Bool → Option (List ℕ) → Option (List ℕ)
asks_if turn class = if not turn then None else class

turn_open : (turn : Bool) (left : Left) (class : Option (List ℕ)) (q : List ℕ) (n : ℕ)
    → if_open (taken_by left false (asks_if turn class)) (in_turn turn (weight q class)) + (n - left_by left (asks_if turn class) q) ≡ (in_turn turn (weight q class) + n) - left q
turn_open true left class q n = open_step left class q n
turn_open false left class q n = omega arith

turn_left : (turn : Bool) (left : Left) (class : Option (List ℕ)) (q : List ℕ) (n : ℕ)
    → left_by left (asks_if turn class) q - n ≡ left q - (in_turn turn (weight q class) + n)
turn_left true left class q n = left_step left class q n
turn_left false left class q n = omega arith

-- ---- a turn

-- as many of a class stay open as there are too few entries
pub took_open : (round : Round) (late : Bool) (q : List ℕ) (items : List ItemParts) (flags : List Bool) (left : Left)
    → open_by (asking_in round q late) items (took round late items flags left) ≡ open_by (asking_in round q late) items flags - left q
took_open round late q [] flags left = omega arith
took_open round late q (it ∷ items) [] left = omega arith
took_open round late q (it ∷ items) (true ∷ flags) left = omega (arith, took_open round late q items flags left)
took_open round late q (it ∷ items) (false ∷ flags) left =
    ap (λ n. if_open (taken_by left false (asks round late it false)) (asking_in round q late it) + n) (took_open round late q items flags (left_by left (asks round late it false)))
    ∙ turn_open (same it.late late) left (asked round it) q (open_by (asking_in round q late) items flags)

-- and so many entries are left
pub rest_left : (round : Round) (late : Bool) (q : List ℕ) (items : List ItemParts) (flags : List Bool) (left : Left)
    → rest round late items flags left q ≡ left q - open_by (asking_in round q late) items flags
rest_left round late q [] flags left = omega arith
rest_left round late q (it ∷ items) [] left = omega arith
rest_left round late q (it ∷ items) (true ∷ flags) left = omega (arith, rest_left round late q items flags left)
rest_left round late q (it ∷ items) (false ∷ flags) left =
    rest_left round late q items flags (left_by left (asks round late it false))
    ∙ turn_left (same it.late late) left (asked round it) q (open_by (asking_in round q late) items flags)

-- those that aren't in turn stay as they are
other_open : (late is : Bool) (left : Left) (class : Option (List ℕ)) (n : ℕ)
    → if_open (taken_by left false (asks_if (same is late) class)) (in_turn (same is (not late)) n) ≡ in_turn (same is (not late)) n
other_open true true left class n = if_none (taken_by left false class)
  where
    if_none : (said : Bool) → if_open said 0 ≡ 0
    if_none true = refl
    if_none false = refl
other_open true false left class n = refl
other_open false true left class n = refl
other_open false false left class n = if_none (taken_by left false class)
  where
    if_none : (said : Bool) → if_open said 0 ≡ 0
    if_none true = refl
    if_none false = refl

pub took_others : (round : Round) (late : Bool) (q : List ℕ) (items : List ItemParts) (flags : List Bool) (left : Left)
    → open_by (asking_in round q (not late)) items (took round late items flags left) ≡ open_by (asking_in round q (not late)) items flags
took_others round late q [] flags left = refl
took_others round late q (it ∷ items) [] left = refl
took_others round late q (it ∷ items) (true ∷ flags) left = omega (arith, took_others round late q items flags left)
took_others round late q (it ∷ items) (false ∷ flags) left =
    omega (arith, other_open late it.late left (asked round it) (asking round q it), took_others round late q items flags (left_by left (asks round late it false)))

-- ---- a round

turn_parts : (late : Bool) (n : ℕ) → in_turn (same late false) n + in_turn (same late true) n ≡ n
turn_parts true n = omega arith
turn_parts false n = omega arith

if_parts : (flag : Bool) (a b n : ℕ) → a + b ≡ n → if_open flag a + if_open flag b ≡ if_open flag n
if_parts true a b n is = omega arith
if_parts false a b n is = omega arith

pub open_parts : (round : Round) (q : List ℕ) (items : List ItemParts) (flags : List Bool)
    → open_by (asking_in round q false) items flags + open_by (asking_in round q true) items flags ≡ open_by (asking round q) items flags
open_parts round q [] flags = omega arith
open_parts round q (it ∷ items) [] = omega arith
open_parts round q (it ∷ items) (flag ∷ flags) =
    omega (arith, open_parts round q items flags, if_parts flag (asking_in round q false it) (asking_in round q true it) (asking round q it) (turn_parts it.late (asking round q it)))

-- of those that ask for a class, as many stay open as there are too few entries
pub turns_open : (round : Round) (q : List ℕ) (items : List ItemParts) (flags : List Bool) (left : Left)
    → open_by (asking round q) items (turns round items flags left) ≡ open_by (asking round q) items flags - left q
turns_open round q items flags left =
    let early = took round false items flags left in
    let after = turns round items flags left in
    let kept = rest round false items flags left in
    let first : open_by (asking_in round q true) items early ≡ open_by (asking_in round q true) items flags = took_others round false q items flags left in
    let second : open_by (asking_in round q false) items after ≡ open_by (asking_in round q false) items early = took_others round true q items early kept in
    omega (
      arith,
      open_parts round q items flags,
      open_parts round q items after,
      took_open round false q items flags left,
      rest_left round false q items flags left,
      took_open round true q items early kept,
    )

-- ---- nothing is opened again

if_less : (left : Left) (round : Round) (late : Bool) (it : ItemParts) (flag : Bool) (n : ℕ) → if_open (taken_by left flag (asks round late it flag)) n ≤ if_open flag n
if_less left round late it true n = omega arith
if_less left round late it false n = below (taken_by left false (asks round late it false))
  where
    below : (said : Bool) → if_open said n ≤ n
    below true = omega arith
    below false = omega arith

took_less : (w : Weight) (round : Round) (late : Bool) (items : List ItemParts) (flags : List Bool) (left : Left)
    → open_by w items (took round late items flags left) ≤ open_by w items flags
took_less w round late [] flags left = omega arith
took_less w round late (it ∷ items) [] left = omega arith
took_less w round late (it ∷ items) (flag ∷ flags) left =
    omega (arith, if_less left round late it flag (w it), took_less w round late items flags (left_by left (asks round late it flag)))

pub turns_less : (w : Weight) (round : Round) (items : List ItemParts) (flags : List Bool) (left : Left) → open_by w items (turns round items flags left) ≤ open_by w items flags
turns_less w round items flags left =
    let early = took round false items flags left in
    omega (arith, took_less w round false items flags left, took_less w round true items early (rest round false items flags left))

-- ---- lengths, and what was taken stays taken

took_length : (round : Round) (late : Bool) (items : List ItemParts) (flags : List Bool) (left : Left) → length flags ≡ length items
    → length (took round late items flags left) ≡ length items
took_length round late [] flags left alike = refl
took_length round late (it ∷ items) [] left alike = absurd (omega arith)
took_length round late (it ∷ items) (flag ∷ flags) left alike = omega (arith, took_length round late items flags (left_by left (asks round late it flag)) (omega arith))

pub turns_length : (round : Round) (items : List ItemParts) (flags : List Bool) (left : Left) → length flags ≡ length items → length (turns round items flags left) ≡ length items
turns_length round items flags left alike =
    took_length round true items (took round false items flags left) (rest round false items flags left) (took_length round false items flags left alike)

pub stay_again : (flags : List Bool) → StayTaken flags flags
stay_again [] = tt
stay_again (flag ∷ flags) = ((λ is. is), stay_again flags)

pub stay_on : (before flags after : List Bool) → StayTaken before flags → StayTaken flags after → StayTaken before after
stay_on [] [] after first second = second
stay_on [] (flag ∷ flags) after first second = absurd first
stay_on (was ∷ before) [] after first second = absurd first
stay_on (was ∷ before) (flag ∷ flags) [] first second = absurd second
stay_on (was ∷ before) (flag ∷ flags) (is ∷ after) first second = ((λ p. second.0 (first.0 p)), stay_on before flags after first.1 second.1)

flag_stays : (left : Left) (round : Round) (late : Bool) (it : ItemParts) (flag : Bool) → flag ≡ true → taken_by left flag (asks round late it flag) ≡ true
flag_stays left round late it true is = refl
flag_stays left round late it false is = absurd (false≢true is)

took_stays : (round : Round) (late : Bool) (items : List ItemParts) (flags : List Bool) (left : Left) → length flags ≡ length items
    → StayTaken flags (took round late items flags left)
took_stays round late [] [] left alike = tt
took_stays round late [] (flag ∷ flags) left alike = absurd (omega arith)
took_stays round late (it ∷ items) [] left alike = absurd (omega arith)
took_stays round late (it ∷ items) (flag ∷ flags) left alike =
    (flag_stays left round late it flag, took_stays round late items flags (left_by left (asks round late it flag)) (omega arith))

pub turns_stay : (round : Round) (items : List ItemParts) (flags : List Bool) (left : Left) → length flags ≡ length items → StayTaken flags (turns round items flags left)
turns_stay round items flags left alike =
    let early = took round false items flags left in
    stay_on flags early (turns round items flags left) (took_stays round false items flags left alike)
    (took_stays round true items early (rest round false items flags left) (took_length round false items flags left alike))

-- ---- what is taken away

open_stay : (w : Weight) (items : List ItemParts) (before after : List Bool) → StayTaken before after → open_by w items after ≤ open_by w items before
open_stay w [] before after stay = omega arith
open_stay w (it ∷ items) [] [] stay = omega arith
open_stay w (it ∷ items) [] (is ∷ after) stay = absurd stay
open_stay w (it ∷ items) (was ∷ before) [] stay = absurd stay
open_stay w (it ∷ items) (true ∷ before) (true ∷ after) stay = omega (arith, open_stay w items before after stay.1)
open_stay w (it ∷ items) (true ∷ before) (false ∷ after) stay = absurd (false≢true (stay.0 refl))
open_stay w (it ∷ items) (false ∷ before) (true ∷ after) stay = omega (arith, open_stay w items before after stay.1)
open_stay w (it ∷ items) (false ∷ before) (false ∷ after) stay = omega (arith, open_stay w items before after stay.1)

-- one of a kind, as a number
abbrev pub of_kind : List ℕ → Weight
of_kind q it = one_of it.kind q

-- of each kind as many as are no longer open
pub away_is : (q : List ℕ) (left : Left) (items : List ItemParts) (before after : List Bool) → StayTaken before after
    → taken_away left items before after q ≡ left q - (open_by (of_kind q) items before - open_by (of_kind q) items after)
unfolding less
away_is q left [] before after stay = omega arith
away_is q left (it ∷ items) [] [] stay = omega arith
away_is q left (it ∷ items) [] (is ∷ after) stay = absurd stay
away_is q left (it ∷ items) (was ∷ before) [] stay = absurd stay
away_is q left (it ∷ items) (true ∷ before) (true ∷ after) stay = omega (arith, away_is q left items before after stay.1)
away_is q left (it ∷ items) (true ∷ before) (false ∷ after) stay = absurd (false≢true (stay.0 refl))
away_is q left (it ∷ items) (false ∷ before) (true ∷ after) stay =
    omega (arith, away_is q (less left it.kind) items before after stay.1, open_stay (of_kind q) items before after stay.1)
away_is q left (it ∷ items) (false ∷ before) (false ∷ after) stay =
    omega (arith, away_is q left items before after stay.1, open_stay (of_kind q) items before after stay.1)

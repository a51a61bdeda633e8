-- Of the findings that come last, how many are new.
use Rattle.std.proofs.Common.{◌≡◌, ◌⊎◌, inl, inr, ℕ, ◌+◌, ◌-◌, ◌<◌, ◌≤◌, min, ◌&&◌, ◌||◌, not, Bool, true, false, cond, if◌then◌else◌, filter, List, [], ◌∷◌, length, map, Option, Some, None, is_some, option_map, refl, sym, ap, ◌∙◌, arith, subst}
use Rattle.std.specs.List.{All}
use Rattle.std.specs.Str.{bytes_eq}
use Rattle.std.proofs.lemmas.Bool.{false≢true}
use Rattle.std.proofs.lemmas.List.{length-map}
use Rattle.std.proofs.lemmas.List.Elements.{All-cons, All-head, All-nil, All-tail, All-weaker}
use Rattle.finding_filters.specs.Baseline.{ItemParts, Left, asked, asked_in, entries_in, known, offered, one_of, same, taken_away}
use Rattle.finding_filters.specs.Finding.{FindingParts}
use Rattle.finding_filters.specs.Selection.{is_selected}
use Rattle.finding_filters.specs.Texts.{row_class}
use Rattle.finding_filters.specs.declared.baseline.Round.{Round}
use Rattle.finding_filters.specs.declared.baseline.Round.TheVariants.{SameRow, NoRow, Rest}
use Rattle.filtered_findings.specs.Repeats.{no_repeats, repeats_if}
use Rattle.filtered_findings.specs.Verdicts.{entries_of, is_late, is_left, item_of, items_of, kind_in, taken_in, twice_in, verdict_at, verdict_of, verdicts_from, verdicts_of}
use Rattle.filtered_findings.specs.declared.verdicts.Filters.{Filters}
use Rattle.filtered_findings.specs.declared.verdicts.Verdict.{Verdict}
use Rattle.filtered_findings.specs.declared.verdicts.Verdict.TheVariants.{Stays, NotSelected, NotChanged}
use Rattle.finding_laws.specs.Baselines.Entries.{StayTaken}
use Rattle.finding_laws.specs.Baselines.Late.{HaveNoRows, HaveRows, IsLesser, TakeLateLast, TakeTheRest, count_new, count_of, count_once, is_bare_of, is_class, is_in, is_late_in, is_late_of, is_new, is_of, new_of, with_rows}
use Rattle.finding_laws.proofs.BaselineLemmas.Greedy.{Weight, asking, asking_in, away_is, if_open, in_turn, of_kind, open_by, turns, turns_open, turns_stay, weight}
use Rattle.finding_laws.proofs.BaselineLemmas.Own.{entries_sum, kind_entry, known_is, offer, sum_of}
use Rattle.finding_laws.proofs.BaselineLemmas.Finding.{if_length}
use Rattle.finding_laws.proofs.BaselineLemmas.Round.{Untouched, away_by, first_by, late_open, second_by, third_by, third_quiet, third_stay, turns_empty, turns_kept, turns_quiet}

-- ---- counts, by what is open

new_if : (passes out : Bool) → cond (passes && not out) 1 0 ≡ if_open out (cond passes 1 0)
new_if true true = refl
new_if true false = refl
new_if false true = refl
new_if false false = refl

new_verdict : (filters : Filters) (it : FindingParts) → is_new (verdict_of filters it) ≡ true
unfolding verdict_of
new_verdict filters it = go (not (is_selected filters.selection it)) (not (is_left filters it))
  where
    go : (out gone : Bool) → is_new (if out then NotSelected else if gone then NotChanged else Stays) ≡ true
    go true gone = refl
    go false true = refl
    go false false = refl

one_new : (filters : Filters) (it : FindingParts) (passes was is : Bool) (n : ℕ) → n ≡ cond passes 1 0 → (was ≡ true → is ≡ true)
    → cond (passes && is_new (verdict_at filters it was is)) 1 0 ≡ if_open is n
one_new filters it passes true true n same stay = new_if passes true
one_new filters it passes true false n same stay = absurd (false≢true (stay refl))
one_new filters it passes false true n same stay = new_if passes true
one_new filters it passes false false n same stay =
    ap (λ (new : Bool). cond (passes && new) 1 0) (new_verdict filters it) ∙ new_if passes false ∙ sym same

-- the weight of a finding is 1 if it passes a test
abbrev Tells : Filters → Weight → (FindingParts → Bool) → Type 0
Tells filters w passes = (it : FindingParts) → w (item_of filters (is_late filters.changed it) it) ≡ cond (passes it) 1 0

new_count : (filters : Filters) (passes : FindingParts → Bool) (w : Weight) → Tells filters w passes → (its : List FindingParts) (twice taken : List Bool) → StayTaken twice taken
    → count_new passes its (verdicts_from filters its twice taken) ≡ open_by w (items_of filters its) taken
new_count filters passes w tells [] twice taken stay = refl
new_count filters passes w tells (it ∷ its) [] [] stay = refl
new_count filters passes w tells (it ∷ its) [] (is ∷ taken) stay = absurd stay
new_count filters passes w tells (it ∷ its) (was ∷ twice) [] stay = absurd stay
new_count filters passes w tells (it ∷ its) (was ∷ twice) (is ∷ taken) stay =
    omega (
      arith,
      one_new filters it (passes it) was is (w (item_of filters (is_late filters.changed it) it)) (tells it) stay.0,
      new_count filters passes w tells its twice taken stay.1,
    )

once_count : (filters : Filters) (passes : FindingParts → Bool) (w : Weight) → Tells filters w passes → (its : List FindingParts) (flags : List Bool)
    → open_by w (items_of filters its) flags ≡ count_once passes its flags
once_count filters passes w tells [] flags = refl
once_count filters passes w tells (it ∷ its) [] = refl
once_count filters passes w tells (it ∷ its) (flag ∷ flags) =
    omega (arith, ap (if_open flag) (tells it), new_if (passes it) flag, once_count filters passes w tells its flags)

-- and that of an entry
abbrev TellsEntry : Filters → Weight → (FindingParts → Bool) → FindingParts → Type 0
TellsEntry filters w passes it = w (item_of filters false it) ≡ cond (passes it) 1 0

entry_count : (filters : Filters) (passes : FindingParts → Bool) (w : Weight) (old : List FindingParts) (flags : List Bool) → All (TellsEntry filters w passes) old
    → sum_of w (entries_of filters old flags) ≡ count_once passes old flags
entry_count filters passes w [] flags tells = refl
entry_count filters passes w (it ∷ old) [] tells = refl
entry_count filters passes w (it ∷ old) (true ∷ flags) tells =
    omega (arith, new_if (passes it) true, entry_count filters passes w old flags (All-tail (TellsEntry filters w passes) it old tells))
entry_count filters passes w (it ∷ old) (false ∷ flags) tells =
    omega (
      arith,
      All-head (TellsEntry filters w passes) it old tells,
      new_if (passes it) false,
      entry_count filters passes w old flags (All-tail (TellsEntry filters w passes) it old tells),
    )

each_tells : (P : FindingParts → Type 0) → ((it : FindingParts) → P it) → (its : List FindingParts) → All P its
each_tells P tells [] = All-nil P
each_tells P tells (it ∷ its) = All-cons P it its (tells it) (each_tells P tells its)

-- ---- tests, as weights

late_weight : (late is : Bool) (n : ℕ) → n ≡ cond is 1 0 → in_turn (same late true) n ≡ cond (late && is) 1 0
late_weight true is n same = same
late_weight false is n same = refl

class_weight : (q : List ℕ) (class : Option (List ℕ)) → weight q class ≡ cond (is_class q class) 1 0
class_weight q None = refl
class_weight q (Some class) = refl

kind_late : (filters : Filters) (q : List ℕ) → Tells filters (asking_in Rest q true) (is_late_of filters q)
kind_late filters q it = late_weight (is_late filters.changed it) (is_of filters q it) (cond (is_of filters q it) 1 0) refl

kind_all : (filters : Filters) (q : List ℕ) → Tells filters (asking Rest q) (is_of filters q)
kind_all filters q it = refl

class_late : (filters : Filters) (q : List ℕ) → Tells filters (asking_in SameRow q true) (is_late_in filters q)
class_late filters q it =
    let class = option_map (row_class (kind_in filters it)) it.row_text in
    late_weight (is_late filters.changed it) (is_class q class) (weight q class) (class_weight q class)

class_all : (filters : Filters) (q : List ℕ) → Tells filters (asking SameRow q) (is_in filters q)
class_all filters q it = class_weight q (option_map (row_class (kind_in filters it)) it.row_text)

kind_bare : (filters : Filters) (q : List ℕ) (it : FindingParts) → TellsEntry filters (offer Rest q) (is_bare_of filters q) it
kind_bare filters q it = go it.row_text
  where
    go : (row : Option (List ℕ)) → weight q (offered Rest (kind_in filters it) (option_map (row_class (kind_in filters it)) row)) ≡ cond (not (is_some row) && is_of filters q it) 1 0
    go None = refl
    go (Some row) = refl

kind_without : (filters : Filters) (q : List ℕ) (it : FindingParts) → it.row_text ≡ None → TellsEntry filters (offer Rest q) (is_of filters q) it
kind_without filters q it is = ap (λ (row : Option (List ℕ)). weight q (offered Rest (kind_in filters it) (option_map (row_class (kind_in filters it)) row))) is

-- ---- rows

abbrev NoClass : ItemParts → Type 0
NoClass it = it.class ≡ None

no_classes : (filters : Filters) (its : List FindingParts) → HaveNoRows its → All NoClass (items_of filters its)
no_classes filters [] none = All-nil NoClass
no_classes filters (it ∷ its) none =
    All-cons NoClass (item_of filters (is_late filters.changed it) it) (items_of filters its)
    (ap (option_map (row_class (kind_in filters it))) (All-head (λ it. it.row_text ≡ None) it its none)) (no_classes filters its (All-tail (λ it. it.row_text ≡ None) it its none))

no_entry_classes : (filters : Filters) (old : List FindingParts) (flags : List Bool) → HaveNoRows old → All NoClass (entries_of filters old flags)
no_entry_classes filters [] flags none = All-nil NoClass
no_entry_classes filters (it ∷ old) [] none = All-nil NoClass
no_entry_classes filters (it ∷ old) (true ∷ flags) none = no_entry_classes filters old flags (All-tail (λ it. it.row_text ≡ None) it old none)
no_entry_classes filters (it ∷ old) (false ∷ flags) none =
    All-cons NoClass (item_of filters false it) (entries_of filters old flags)
    (ap (option_map (row_class (kind_in filters it))) (All-head (λ it. it.row_text ≡ None) it old none))
    (no_entry_classes filters old flags (All-tail (λ it. it.row_text ≡ None) it old none))

no_first : (q : List ℕ) (entries : List ItemParts) → All NoClass entries → sum_of (offer SameRow q) entries ≡ 0
no_first q [] none = refl
no_first q (entry ∷ entries) none =
    omega (arith, ap (weight q) (All-head NoClass entry entries none), no_first q entries (All-tail NoClass entry entries none))

no_second : (q : List ℕ) (entries : List ItemParts) → All NoClass entries → sum_of (offer NoRow q) entries ≡ 0
no_second q [] none = refl
no_second q (entry ∷ entries) none =
    omega (
      arith,
      ap (λ (class : Option (List ℕ)). weight q (offered NoRow entry.kind class)) (All-head NoClass entry entries none),
      no_second q entries (All-tail NoClass entry entries none),
    )

row_offers_none : (q kind : List ℕ) (row : Option (List ℕ)) → is_some row ≡ true → weight q (offered Rest kind (option_map (row_class kind) row)) ≡ 0
row_offers_none q kind None is = absurd (false≢true is)
row_offers_none q kind (Some row) is = refl

no_third : (filters : Filters) (q : List ℕ) (old : List FindingParts) (flags : List Bool) → HaveRows old → sum_of (offer Rest q) (entries_of filters old flags) ≡ 0
no_third filters q [] flags all = refl
no_third filters q (it ∷ old) [] all = refl
no_third filters q (it ∷ old) (true ∷ flags) all = no_third filters q old flags (All-tail (λ it. is_some it.row_text ≡ true) it old all)
no_third filters q (it ∷ old) (false ∷ flags) all =
    omega (
      arith,
      row_offers_none q (kind_in filters it) it.row_text (All-head (λ it. is_some it.row_text ≡ true) it old all),
      no_third filters q old flags (All-tail (λ it. is_some it.row_text ≡ true) it old all),
    )

kinds_sum : (q : List ℕ) (entries : List ItemParts) → sum_of (of_kind q) entries ≡ sum_of (offer NoRow q) entries + sum_of (offer Rest q) entries
kinds_sum q [] = omega arith
kinds_sum q (entry ∷ entries) = omega (arith, kind_entry q entry.kind entry.class, kinds_sum q entries)

-- what asks without a row asks for its kind
abbrev Alike : Weight → Weight → ItemParts → Type 0
Alike w v it = w it ≡ v it

open_alike : (w v : Weight) (items : List ItemParts) (flags : List Bool) → All (Alike w v) items → open_by w items flags ≡ open_by v items flags
open_alike w v [] flags alike = refl
open_alike w v (it ∷ items) [] alike = refl
open_alike w v (it ∷ items) (flag ∷ flags) alike =
    omega (arith, ap (if_open flag) (All-head (Alike w v) it items alike), open_alike w v items flags (All-tail (Alike w v) it items alike))

asks_kind : (q : List ℕ) (it : ItemParts) → NoClass it → Alike (asking Rest q) (asking NoRow q) it
asks_kind q it none = sym (ap (λ (class : Option (List ℕ)). weight q (asked_in NoRow it.kind class)) none)

asks_kind_late : (q : List ℕ) (it : ItemParts) → NoClass it → Alike (asking_in Rest q true) (asking_in NoRow q true) it
asks_kind_late q it none = ap (in_turn (same it.late true)) (asks_kind q it none)

-- what asks for its row asks nothing without one
in_none : (turn : Bool) → in_turn turn 0 ≡ 0
in_none true = refl
in_none false = refl

row_untouched : (q : List ℕ) (it : ItemParts) → Untouched (asking_in SameRow q true) NoRow it
row_untouched q it = go it.class
  where
    go : (class : Option (List ℕ)) → (asked_in NoRow it.kind class ≡ None) ⊎ (in_turn (same it.late true) (weight q (asked_in SameRow it.kind class)) ≡ 0)
    go None = inr (in_none (same it.late true))
    go (Some class) = inl refl

-- ---- what is open in the end

-- the lesser after two rounds, of which each takes so many
two_rounds : (late all first second late_then all_then : ℕ) → late_then ≡ min late (all - first) → all_then ≡ all - first
    → min late_then (all_then - second) ≡ min late (all - (first + second))
two_rounds late all first second late_then all_then late_is all_is = omega arith

lesser_same : (late all first late_is all_is second : ℕ) → late ≡ late_is → all ≡ all_is → first ≡ second → min late (all - first) ≡ min late_is (all_is - second)
lesser_same late all first late_is all_is second p q r = omega arith

module _ (q : List ℕ) (items : List ItemParts) (flags : List Bool) (entries : List ItemParts) (long : length flags ≡ length items) where
  -- entries without rows: only the last round takes
  open_without : All NoClass entries → open_by (asking_in Rest q true) items (third_by items flags entries)
      ≡ min (open_by (asking_in Rest q true) items flags) (open_by (asking Rest q) items flags - sum_of (offer Rest q) entries)
  open_without none =
      let first_is : first_by items flags entries ≡ flags =
      turns_empty SameRow items flags (entries_in SameRow entries) long (λ p. entries_sum SameRow entries p ∙ no_first p entries none) in
      let stay : StayTaken flags (first_by items flags entries) = turns_stay SameRow items flags (entries_in SameRow entries) long in
      let empty : (p : List ℕ) → away_by items flags entries p ≡ 0 =
      λ p. omega (
        arith,
        away_is p (entries_in NoRow entries) items flags (first_by items flags entries) stay,
        entries_sum NoRow entries p,
        no_second p entries none,
      ) in
      let second_is : second_by items flags entries ≡ flags =
      turns_empty NoRow items (first_by items flags entries) (away_by items flags entries) (ap length first_is ∙ long) empty ∙ first_is in
      ap (λ (second : List Bool). open_by (asking_in Rest q true) items (turns Rest items second (entries_in Rest entries))) second_is
      ∙ omega (arith, late_open Rest q items flags (entries_in Rest entries), entries_sum Rest entries q)

  -- findings without rows: they take entries with a row and then those without
  open_bare : All NoClass items → open_by (asking_in Rest q true) items (third_by items flags entries)
      ≡ min (open_by (asking_in Rest q true) items flags) (open_by (asking Rest q) items flags - sum_of (of_kind q) entries)
  open_bare none =
      let first = first_by items flags entries in
      let away = away_by items flags entries in
      let second = second_by items flags entries in
      let first_is : first ≡ flags = turns_quiet SameRow items flags (entries_in SameRow entries) long none in
      let late_alike : All (Alike (asking_in Rest q true) (asking_in NoRow q true)) items = All-weaker NoClass (Alike (asking_in Rest q true) (asking_in NoRow q true)) (asks_kind_late q) items none in
      let all_alike : All (Alike (asking Rest q) (asking NoRow q)) items = All-weaker NoClass (Alike (asking Rest q) (asking NoRow q)) (asks_kind q) items none in
      let same_late : open_by (asking_in NoRow q true) items first ≡ open_by (asking_in NoRow q true) items flags = ap (open_by (asking_in NoRow q true) items) first_is in
      let same_all : open_by (asking NoRow q) items first ≡ open_by (asking NoRow q) items flags = ap (open_by (asking NoRow q) items) first_is in
      let same_kind : open_by (of_kind q) items first ≡ open_by (of_kind q) items flags = ap (open_by (of_kind q) items) first_is in
      let away_all : away q ≡ entries_in NoRow entries q - (open_by (of_kind q) items flags - open_by (of_kind q) items first) =
      away_is q (entries_in NoRow entries) items flags first (turns_stay SameRow items flags (entries_in SameRow entries) long) in
      let away_sum : away q ≡ sum_of (offer NoRow q) entries = omega (arith, away_all, same_kind, entries_sum NoRow entries q) in
      let late_second : open_by (asking_in NoRow q true) items second ≡ min (open_by (asking_in NoRow q true) items first) (open_by (asking NoRow q) items first - away q) = late_open NoRow q items first away in
      let all_second : open_by (asking NoRow q) items second ≡ open_by (asking NoRow q) items first - away q = turns_open NoRow q items first away in
      let late_is : open_by (asking_in Rest q true) items second ≡ min (open_by (asking_in Rest q true) items flags) (open_by (asking Rest q) items flags - sum_of (offer NoRow q) entries) =
      open_alike (asking_in Rest q true) (asking_in NoRow q true) items second late_alike ∙ late_second
      ∙ lesser_same (open_by (asking_in NoRow q true) items first) (open_by (asking NoRow q) items first) (away q) (open_by (asking_in Rest q true) items flags)
      (open_by (asking Rest q) items flags) (sum_of (offer NoRow q) entries)
      (same_late ∙ sym (open_alike (asking_in Rest q true) (asking_in NoRow q true) items flags late_alike))
      (same_all ∙ sym (open_alike (asking Rest q) (asking NoRow q) items flags all_alike)) away_sum in
      let all_is : open_by (asking Rest q) items second ≡ open_by (asking Rest q) items flags - sum_of (offer NoRow q) entries =
      omega (
        arith,
        open_alike (asking Rest q) (asking NoRow q) items second all_alike,
        all_second,
        same_all,
        away_sum,
        open_alike (asking Rest q) (asking NoRow q) items flags all_alike,
      ) in
      late_open Rest q items second (entries_in Rest entries)
      ∙ two_rounds (open_by (asking_in Rest q true) items flags) (open_by (asking Rest q) items flags) (sum_of (offer NoRow q) entries) (entries_in Rest entries q)
      (open_by (asking_in Rest q true) items second) (open_by (asking Rest q) items second) late_is all_is
      ∙ ap (λ n. min (open_by (asking_in Rest q true) items flags) (open_by (asking Rest q) items flags - n)) (omega (arith, entries_sum Rest entries q, kinds_sum q entries))

  -- entries with rows: of those that know theirs only the first round takes
  open_rows : ((p : List ℕ) → entries_in Rest entries p ≡ 0) → open_by (asking_in SameRow q true) items (third_by items flags entries)
      ≡ min (open_by (asking_in SameRow q true) items flags) (open_by (asking SameRow q) items flags - sum_of (offer SameRow q) entries)
  open_rows none =
      ap (open_by (asking_in SameRow q true) items) (third_quiet items flags entries long none)
      ∙ turns_kept (asking_in SameRow q true) NoRow items (first_by items flags entries) (away_by items flags entries) (row_untouched q)
      ∙ omega (arith, late_open SameRow q items flags (entries_in SameRow entries), entries_sum SameRow entries q)

-- ---- what is new

abbrev entries_for : Filters → List FindingParts → List ItemParts
entries_for filters old = entries_of filters old (twice_in filters old)

-- the flags of what is taken in the end
abbrev ends : Filters → List FindingParts → List FindingParts → List Bool
ends filters its old = third_by (items_of filters its) (twice_in filters its) (entries_for filters old)

flags_long : (filters : Filters) (its : List FindingParts) → length (twice_in filters its) ≡ length (items_of filters its)
flags_long filters its = if_length filters.unique its ∙ sym (length-map its _)

new_is : (filters : Filters) (passes : FindingParts → Bool) (w : Weight) (its old : List FindingParts) → Tells filters w passes
    → new_of filters passes its old ≡ open_by w (items_of filters its) (ends filters its old)
unfolding verdicts_of
new_is filters passes w its old tells =
    let items = items_of filters its in
    let flags = twice_in filters its in
    let entries = entries_for filters old in
    ap (λ (taken : List Bool). count_new passes its (verdicts_from filters its flags taken)) (known_is items flags entries)
    ∙ new_count filters passes w tells its flags (ends filters its old) (third_stay items flags entries (flags_long filters its))

lesser_by : (filters : Filters) (late all : FindingParts → Bool) (w v : Weight) (n : ℕ) (its old : List FindingParts) → Tells filters w late → Tells filters v all → n ≡ count_of filters all old
    → open_by w (items_of filters its) (ends filters its old) ≡ min (open_by w (items_of filters its) (twice_in filters its)) (open_by v (items_of filters its) (twice_in filters its) - n)
    → IsLesser filters late all its old
lesser_by filters late all w v n its old tells tells_all entries opens =
    omega (
      arith,
      new_is filters late w its old tells,
      opens,
      once_count filters late w tells its (twice_in filters its),
      once_count filters all v tells_all its (twice_in filters its),
      entries,
    )

-- where no finding or no entry knows its row, by kinds
pub lesser_of_kinds : (filters : Filters) (q : List ℕ) (its old : List FindingParts) → HaveNoRows its ⊎ HaveNoRows old → IsLesser filters (is_late_of filters q) (is_of filters q) its old
lesser_of_kinds filters q its old (inl none) =
    let flags = twice_in filters old in
    let tells = each_tells (TellsEntry filters (of_kind q) (is_of filters q)) (λ it. refl) old in
    lesser_by filters (is_late_of filters q) (is_of filters q) (asking_in Rest q true) (asking Rest q) (sum_of (of_kind q) (entries_for filters old)) its old (kind_late filters q)
    (kind_all filters q) (entry_count filters (is_of filters q) (of_kind q) old flags tells)
    (open_bare q (items_of filters its) (twice_in filters its) (entries_for filters old) (flags_long filters its) (no_classes filters its none))
lesser_of_kinds filters q its old (inr none) =
    let flags = twice_in filters old in
    let tells = All-weaker (λ it. it.row_text ≡ None) (TellsEntry filters (offer Rest q) (is_of filters q)) (kind_without filters q) old none in
    lesser_by filters (is_late_of filters q) (is_of filters q) (asking_in Rest q true) (asking Rest q) (sum_of (offer Rest q) (entries_for filters old)) its old (kind_late filters q)
    (kind_all filters q) (entry_count filters (is_of filters q) (offer Rest q) old flags tells)
    (open_without q (items_of filters its) (twice_in filters its) (entries_for filters old) (flags_long filters its) (no_entry_classes filters old flags none))

-- where each entry knows its row, by kinds and rows
pub lesser_of_classes : (filters : Filters) (q : List ℕ) (its old : List FindingParts) → HaveRows old → IsLesser filters (is_late_in filters q) (is_in filters q) its old
lesser_of_classes filters q its old all =
    let flags = twice_in filters old in
    let entries = entries_for filters old in
    let tells = each_tells (TellsEntry filters (offer SameRow q) (is_in filters q)) (λ it. class_weight q (option_map (row_class (kind_in filters it)) it.row_text)) old in
    lesser_by filters (is_late_in filters q) (is_in filters q) (asking_in SameRow q true) (asking SameRow q) (sum_of (offer SameRow q) entries) its old (class_late filters q) (class_all filters q)
    (entry_count filters (is_in filters q) (offer SameRow q) old flags tells)
    (open_rows q (items_of filters its) (twice_in filters its) entries (flags_long filters its) (λ p. entries_sum Rest entries p ∙ no_third filters p old flags all))

-- ---- entries of which some know their row

-- without repetitions
plain_entries : (filters : Filters) (old : List FindingParts) → filters.unique ≡ false → entries_for filters old ≡ entries_of filters old (no_repeats old)
plain_entries filters old plain = ap (λ (unique : Bool). entries_of filters old (repeats_if unique old)) plain

has_rows : (old : List FindingParts) → HaveRows (with_rows old)
has_rows [] = All-nil (λ it. is_some it.row_text ≡ true)
has_rows (it ∷ old) = go (is_some it.row_text) refl (has_rows old)
  where
    go : (has : Bool) → is_some it.row_text ≡ has → HaveRows (with_rows old) → HaveRows (cond has (it ∷ with_rows old) (with_rows old))
    go true is rest = All-cons (λ it. is_some it.row_text ≡ true) it (with_rows old) is rest
    go false is rest = rest

-- rounds that take no entry without a row
abbrev TakesRows : Filters → Weight → Type 0
TakesRows filters w = (it : FindingParts) → is_some it.row_text ≡ false → w (item_of filters false it) ≡ 0

rows_sum : (filters : Filters) (w : Weight) → TakesRows filters w → (old : List FindingParts)
    → sum_of w (entries_of filters (with_rows old) (no_repeats (with_rows old))) ≡ sum_of w (entries_of filters old (no_repeats old))
rows_sum filters w takes [] = refl
rows_sum filters w takes (it ∷ old) = go (is_some it.row_text) refl (rows_sum filters w takes old)
  where
    go : (has : Bool) → is_some it.row_text ≡ has
        → sum_of w (entries_of filters (with_rows old) (no_repeats (with_rows old))) ≡ sum_of w (entries_of filters old (no_repeats old))
        → sum_of w (entries_of filters (cond has (it ∷ with_rows old) (with_rows old)) (no_repeats (cond has (it ∷ with_rows old) (with_rows old))))
        ≡ w (item_of filters false it) + sum_of w (entries_of filters old (no_repeats old))
    go true is rest = omega (arith, rest)
    go false is rest = omega (arith, takes it is, rest)

first_takes : (filters : Filters) (q : List ℕ) → TakesRows filters (offer SameRow q)
first_takes filters q it is = go it.row_text is
  where
    go : (row : Option (List ℕ)) → is_some row ≡ false → weight q (option_map (row_class (kind_in filters it)) row) ≡ 0
    go None is = refl
    go (Some row) is = absurd (false≢true (sym is))

second_takes : (filters : Filters) (q : List ℕ) → TakesRows filters (offer NoRow q)
second_takes filters q it is = go it.row_text is
  where
    go : (row : Option (List ℕ)) → is_some row ≡ false → weight q (offered NoRow (kind_in filters it) (option_map (row_class (kind_in filters it)) row)) ≡ 0
    go None is = refl
    go (Some row) is = absurd (false≢true (sym is))

module _ (filters : Filters) (its old : List FindingParts) (plain : filters.unique ≡ false) where
  abbrev all : List ItemParts
  all = entries_for filters old

  abbrev those : List ItemParts
  those = entries_for filters (with_rows old)

  same_in : (round : Round) → ((q : List ℕ) → TakesRows filters (offer round q)) → entries_in round those ≡ entries_in round all
  same_in round takes = λ i. λ q. at q i
    where
      at : (q : List ℕ) → entries_in round those q ≡ entries_in round all q
      at q =
          entries_sum round those q
          ∙ ap (sum_of (offer round q)) (plain_entries filters (with_rows old) plain)
          ∙ rows_sum filters (offer round q) (takes q) old
          ∙ sym (ap (sum_of (offer round q)) (plain_entries filters old plain)) ∙ sym (entries_sum round all q)

  abbrev second : List Bool
  second = second_by (items_of filters its) (twice_in filters its) all

  -- what is taken by the entries with a row
  rows_take : ends filters its (with_rows old) ≡ second
  rows_take =
      let items = items_of filters its in
      let flags = twice_in filters its in
      third_quiet items flags those (flags_long filters its) (λ q. entries_sum Rest those q ∙ no_third filters q (with_rows old) (twice_in filters (with_rows old)) (has_rows old))
      ∙ ap (λ (left : Left). turns NoRow items (turns SameRow items flags (entries_in SameRow those)) (taken_away left items flags (turns SameRow items flags (entries_in SameRow those))))
      (same_in NoRow (second_takes filters))
      ∙ ap (λ (left : Left). turns NoRow items (turns SameRow items flags left) (taken_away (entries_in NoRow all) items flags (turns SameRow items flags left)))
      (same_in SameRow (first_takes filters))

  bare_sum : (q : List ℕ) → entries_in Rest all q ≡ count_of filters (is_bare_of filters q) old
  bare_sum q =
      entries_sum Rest all q
      ∙ entry_count filters (is_bare_of filters q) (offer Rest q) old (twice_in filters old) (each_tells (TellsEntry filters (offer Rest q) (is_bare_of filters q)) (kind_bare filters q) old)

  new_in : (passes : FindingParts → Bool) (w : Weight) → Tells filters w passes → new_of filters passes its (with_rows old) ≡ open_by w (items_of filters its) second
  new_in passes w tells = new_is filters passes w its (with_rows old) tells ∙ ap (open_by w (items_of filters its)) rows_take

  take_rest : (q : List ℕ) → TakeTheRest filters q its old
  take_rest q =
      omega (
        arith,
        new_is filters (is_of filters q) (asking Rest q) its old (kind_all filters q),
        new_in (is_of filters q) (asking Rest q) (kind_all filters q),
        turns_open Rest q (items_of filters its) second (entries_in Rest all),
        bare_sum q,
      )

  take_last : (q : List ℕ) → TakeLateLast filters q its old
  take_last q =
      omega (
        arith,
        new_is filters (is_of filters q) (asking Rest q) its old (kind_all filters q),
        new_is filters (is_late_of filters q) (asking_in Rest q true) its old (kind_late filters q),
        new_in (is_late_of filters q) (asking_in Rest q true) (kind_late filters q),
        late_open Rest q (items_of filters its) second (entries_in Rest all),
        turns_open Rest q (items_of filters its) second (entries_in Rest all),
      )

pub rest_taken : (filters : Filters) (q : List ℕ) (its old : List FindingParts) → filters.unique ≡ false → TakeTheRest filters q its old
rest_taken filters q its old plain = take_rest filters its old plain q

pub late_taken_last : (filters : Filters) (q : List ℕ) (its old : List FindingParts) → filters.unique ≡ false → TakeLateLast filters q its old
late_taken_last filters q its old plain = take_last filters its old plain q

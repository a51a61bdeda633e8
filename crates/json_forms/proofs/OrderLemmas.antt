-- Members in another order change nothing.
use Rattle.std.proofs.Common.{◌≡◌, ℕ, List, [], ◌∷◌, true, false, if◌then◌else◌, Option, Some, None, map, flat_map, find, refl, ap, subst}
use Rattle.std.specs.Option.{option_or, option_and_then}
use Rattle.std.specs.List.{list_all, list_any}
use Rattle.std.specs.Str.{bytes_eq}
use Rattle.json.specs.Json.{Json}
use Rattle.json_spots.specs.declared.step.Path.{Path}
use Rattle.json_spots.specs.declared.spot.Arrival.{Arrival}
use Rattle.json_spots.specs.declared.spot.Arrival.TheVariants.{There, Null, Not}
use Rattle.json_spots.specs.Spot.{Spot, Reached, each}
use Rattle.json_spots.specs.Said.{says}
use Rattle.json_spots.specs.Same.{AllSame, Same, SameReached, SameSpot, are_placed}
use Rattle.json_spots.proofs.SameLemmas.{append_same, both_true, same_each, same_said}
use Rattle.json_forms.specs.declared.form.List as code_list
use Rattle.json_forms.specs.declared.form.Guard.{Guard}
use Rattle.json_forms.specs.declared.form.Row.{Row}
use Rattle.json_forms.specs.declared.form.Row.TheVariants.{Part, Only, Aside, Level, Constant}
use Rattle.json_forms.specs.declared.form.Side.{Side}
use Rattle.json_forms.specs.declared.keys.TheConstants as keys
use Rattle.json_forms.specs.Rows.{constant, is_said, part}
use Rattle.json_forms.specs.Said.{Fault, number_at, number_fault, number_of, number_said, number_wanted, text_at, text_fault, text_of, text_wanted}
use Rattle.json_forms.specs.Guard.{all_hold, any_holds, asks, holds, lets_through, stops}
use Rattle.json_forms.specs.Severity.{severity_of, severity_said}
use Rattle.json_forms.specs.Place.{either, figures_at, first_of, place_at, place_by, posn_at, posn_fault, posn_in, posn_wanted}
use Rattle.json_forms.specs.Finding.{left, aside, found, arrived, beside_at, beside_if, beside_or, besides, element, fault_in, fault_of, finding_of, is_among, is_true, message_at, number_keys, outcome_of, primary_at, read, said_in, sides_of, text_keys, told}
use Rattle.json_forms.specs.Order.{IsOrderFree, SameBeside, SameFinding, SameOutcome, list_placed, side_placed}
use Rattle.json_forms.specs.Read.{outcomes_in, outcomes_of, root_spot}

abbrev texts_at : Spot → List Path → Option (List ℕ)
texts_at spot paths = text_at paths spot

abbrev numbers_at : Spot → List Path → Option ℕ
numbers_at spot paths = number_at paths spot

-- ---- parts

texts_same : (a b : Spot) → SameSpot a b → texts_at a ≡ texts_at b
unfolding text_at
texts_same a b h = λ i paths. option_and_then (λ path. text_of (same_said a b h path i)) (find (λ path. says (same_said a b h path i)) paths)

numbers_same : (a b : Spot) → SameSpot a b → numbers_at a ≡ numbers_at b
unfolding number_at
numbers_same a b h = λ i paths. option_and_then (λ path. number_of (number_said (same_said a b h path i))) (find (λ path. says (same_said a b h path i)) paths)

text_faults_same : (a b : Spot) → SameSpot a b → (paths : List Path) → text_fault paths a ≡ text_fault paths b
unfolding text_fault
text_faults_same a b h paths = λ i. option_and_then (λ path. text_wanted path (same_said a b h path i)) (find (λ path. says (same_said a b h path i)) paths)

number_faults_same : (a b : Spot) → SameSpot a b → (paths : List Path) → number_fault paths a ≡ number_fault paths b
unfolding number_fault
number_faults_same a b h paths = λ i. option_and_then (λ path. number_wanted path (number_said (same_said a b h path i))) (find (λ path. says (same_said a b h path i)) paths)

posn_faults_same : (a b : Spot) → SameSpot a b → (paths : List Path) → posn_fault paths a ≡ posn_fault paths b
unfolding posn_fault
posn_faults_same a b h paths = λ i. option_and_then (λ path. posn_wanted path (same_said a b h path i)) (find (λ path. says (same_said a b h path i)) paths)

holds_same : (a b : Spot) → SameSpot a b → (guard : Guard) → holds guard a ≡ holds guard b
unfolding holds
holds_same a b h guard = ap (asks guard guard.ask) (same_said a b h guard.path)

through_same : (a b : Spot) → SameSpot a b → (row : Row) → lets_through a row ≡ lets_through b row
through_same a b h (Part own paths) = refl
through_same a b h (Only guard) = holds_same a b h guard
through_same a b h (Aside guard) = refl
through_same a b h (Level levels) = refl
through_same a b h (Constant own word) = refl

stops_same : (a b : Spot) → SameSpot a b → (row : Row) → stops a row ≡ stops b row
stops_same a b h (Part own paths) = refl
stops_same a b h (Only guard) = refl
stops_same a b h (Aside guard) = holds_same a b h guard
stops_same a b h (Level levels) = refl
stops_same a b h (Constant own word) = refl

all_same : (a b : Spot) → SameSpot a b → (rows : List Row) → all_hold rows a ≡ all_hold rows b
all_same a b h rows = λ i. list_all (λ row. through_same a b h row i) rows

any_same : (a b : Spot) → SameSpot a b → (rows : List Row) → any_holds rows a ≡ any_holds rows b
any_same a b h rows = λ i. list_any (λ row. stops_same a b h row i) rows

row_fault_same : (a b : Spot) → SameSpot a b → (row : Row) → fault_in a row ≡ fault_in b row
row_fault_same a b h (Part key paths) = λ i. if is_among number_keys key.now then number_faults_same a b h paths.items i else if is_among text_keys key.now then text_faults_same a b h paths.items i else if bytes_eq key.now keys.POSN.now then posn_faults_same a b h paths.items i else None
row_fault_same a b h (Only guard) = refl
row_fault_same a b h (Aside guard) = refl
row_fault_same a b h (Level levels) = refl
row_fault_same a b h (Constant key word) = refl

fault_same : (a b : Spot) → SameSpot a b → (rows : List Row) → fault_of rows a ≡ fault_of rows b
fault_same a b h [] = refl
fault_same a b h (row ∷ rows) = λ i. option_or (row_fault_same a b h row i) (fault_same a b h rows i)

severity_same : (a b : Spot) → SameSpot a b → (rows : List Row) → severity_of rows a ≡ severity_of rows b
severity_same a b h rows = λ i. severity_said rows (texts_same a b h i (part rows keys.SEVERITY.now))

figures_same : (a b : Spot) → SameSpot a b → (rows : List Row) → figures_at rows a ≡ figures_at rows b
unfolding figures_at
figures_same a b h rows = λ i. record {
  line = numbers_same a b h i (either rows keys.LINE.now keys.LINE0.now);
  column = numbers_same a b h i (either rows keys.COLUMN.now keys.COLUMN0.now);
  end_line = numbers_same a b h i (part rows keys.END_LINE.now);
  end_column = numbers_same a b h i (part rows keys.END_COLUMN.now);
  length = numbers_same a b h i (part rows keys.LENGTH.now);
  offset = numbers_same a b h i (part rows keys.OFFSET.now);
  end_offset = numbers_same a b h i (part rows keys.END_OFFSET.now);
  first_line = first_of rows keys.LINE.now keys.LINE0.now;
  first_column = first_of rows keys.COLUMN.now keys.COLUMN0.now;
  is_last = is_said rows keys.END.now keys.LAST.now;
}

posn_same : (a b : Spot) → SameSpot a b → (paths : List Path) → posn_at paths a ≡ posn_at paths b
unfolding posn_at
posn_same a b h paths = λ i. option_and_then posn_in (texts_same a b h i paths)

place_same : (a b : Spot) → SameSpot a b → (rows : List Row) → place_at rows a ≡ place_at rows b
unfolding place_at
place_same a b h rows = λ i. place_by rows (posn_same a b h (part rows keys.POSN.now) i) (texts_same a b h i (part rows keys.FILE.now)) (figures_same a b h rows i)

message_same : (a b : Spot) → SameSpot a b → (rows : List Row) → message_at rows a ≡ message_at rows b
message_same a b h rows = λ i. option_or (texts_same a b h i (part rows keys.MESSAGE.now)) (texts_same a b h i (part rows keys.CODE.now))

primary_same : (a b : Spot) → SameSpot a b → (paths : List Path) → primary_at paths a ≡ primary_at paths b
primary_same a b h [] = refl
primary_same a b h (path ∷ paths) = ap is_true (same_said a b h path)

-- ---- what is said beside a finding

said_same : (side : Side) (a b : Spot) → SameSpot a b → SameBeside (said_in side a) (said_in side b)
said_same side a b h = λ i. record {
  kind = side.kind;
  place = place_same a b h side.rows.items i;
  text = texts_same a b h i (part side.rows.items keys.TEXT.now);
  primary = primary_same a b h (part side.rows.items keys.PRIMARY.now) i;
}

beside_or_same : (side : Side) (a b : Spot) → SameSpot a b → (fault : Option Fault) → AllSame SameBeside (beside_or side a fault) (beside_or side b fault)
beside_or_same side a b h None = (said_same side a b h, tt)
beside_or_same side a b h (Some fault) = ((h, refl), tt)

beside_there : (side : Side) (a b : Spot) → SameSpot a b → AllSame SameBeside (beside_if side a There) (beside_if side b There)
beside_there side a b h =
    subst (λ f. AllSame SameBeside (beside_if side a There) (if all_hold side.rows.items b then beside_or side b f else [])) (fault_same a b h side.rows.items)
    (subst (λ held. AllSame SameBeside (beside_if side a There) (if held then beside_or side b (fault_of side.rows.items a) else [])) (all_same a b h side.rows.items)
    (elim (all_hold side.rows.items a) as (λ held. AllSame SameBeside (if held then beside_or side a (fault_of side.rows.items a) else []) (if held then beside_or side b (fault_of side.rows.items a) else []))
    [ true ↦ beside_or_same side a b h (fault_of side.rows.items a) | false ↦ tt ]))

beside_arrived : (side : Side) (a b : Spot) → SameSpot a b → (arrival : Arrival) → AllSame SameBeside (beside_if side a arrival) (beside_if side b arrival)
beside_arrived side a b h There = beside_there side a b h
beside_arrived side a b h Null = ((h, refl), tt)
beside_arrived side a b h (Not w) = ((h, refl), tt)

beside_same : (side : Side) (r q : Reached) → SameReached r q → AllSame SameBeside (beside_at side r) (beside_at side q)
unfolding beside_at
beside_same side r q k =
    subst (λ arrival. AllSame SameBeside (beside_if side r.spot r.arrival) (beside_if side q.spot arrival)) k.1 (beside_arrived side r.spot q.spot k.0 r.arrival)

reached_besides : (side : Side) (rs qs : List Reached) → AllSame SameReached rs qs → AllSame SameBeside (flat_map (beside_at side) rs) (flat_map (beside_at side) qs)
reached_besides side [] [] k = tt
reached_besides side [] (q ∷ qs) k = absurd k
reached_besides side (r ∷ rs) [] k = absurd k
reached_besides side (r ∷ rs) (q ∷ qs) k =
    append_same SameBeside (beside_at side r) (beside_at side q) (flat_map (beside_at side) rs) (flat_map (beside_at side) qs) (beside_same side r q k.0) (reached_besides side rs qs k.1)

sides_same : (sides : List Side) → list_all side_placed sides ≡ true → (a b : Spot) → SameSpot a b → AllSame SameBeside (sides_of sides a) (sides_of sides b)
sides_same [] p a b h = tt
sides_same (side ∷ sides) p a b h =
    let parts = both_true (side_placed side) (list_all side_placed sides) p in
    append_same SameBeside (besides side a) (besides side b) (sides_of sides a) (sides_of sides b)
    (reached_besides side (each side.at.items a) (each side.at.items b) (same_each side.at.items parts.0 a b h)) (sides_same sides parts.1 a b h)

-- ---- findings

finding_same : (list : code_list.List) → list_all side_placed list.sides.items ≡ true → (a b : Spot) → SameSpot a b → (message : List ℕ) → SameFinding (finding_of list a message) (finding_of list b message)
unfolding finding_of
finding_same list p a b h message = record {
  parts = λ i. record {
    place = place_same a b h list.rows.items i;
    severity = severity_same a b h list.rows.items i;
    scope = constant list.rows.items keys.SCOPE.now;
    code = texts_same a b h i (part list.rows.items keys.CODE.now);
    message = message;
    help = texts_same a b h i (part list.rows.items keys.HELP.now);
    note = texts_same a b h i (part list.rows.items keys.NOTE.now);
    url = texts_same a b h i (part list.rows.items keys.URL.now);
    sides = [];
  };
  sides = sides_same list.sides.items p a b h;
}

told_same : (list : code_list.List) → list_all side_placed list.sides.items ≡ true → (a b : Spot) → SameSpot a b → (message : Option (List ℕ)) → SameOutcome (told list a message) (told list b message)
told_same list p a b h None = (h, refl)
told_same list p a b h (Some message) =
    subst (λ held. SameOutcome (told list a (Some message)) (if held then aside message else found (finding_of list b message))) (any_same a b h list.rows.items)
    (elim (any_holds list.rows.items a) as (λ held. SameOutcome (if held then aside message else found (finding_of list a message)) (if held then aside message else found (finding_of list b message)))
    [ true ↦ refl | false ↦ finding_same list p a b h message ])

read_same : (list : code_list.List) → list_all side_placed list.sides.items ≡ true → (a b : Spot) → SameSpot a b → (fault : Option Fault) → SameOutcome (read list a fault) (read list b fault)
read_same list p a b h None =
    subst (λ message. SameOutcome (read list a None) (told list b message)) (message_same a b h list.rows.items) (told_same list p a b h (message_at list.rows.items a))
read_same list p a b h (Some fault) = (h, refl)

element_same : (list : code_list.List) → list_all side_placed list.sides.items ≡ true → (a b : Spot) → SameSpot a b → SameOutcome (element list a) (element list b)
element_same list p a b h =
    subst (λ f. SameOutcome (element list a) (if all_hold list.rows.items b then read list b f else left)) (fault_same a b h list.rows.items)
    (subst (λ held. SameOutcome (element list a) (if held then read list b (fault_of list.rows.items a) else left)) (all_same a b h list.rows.items)
    (elim (all_hold list.rows.items a) as (λ held. SameOutcome (if held then read list a (fault_of list.rows.items a) else left) (if held then read list b (fault_of list.rows.items a) else left))
    [ true ↦ read_same list p a b h (fault_of list.rows.items a) | false ↦ tt ]))

arrived_same : (list : code_list.List) → list_all side_placed list.sides.items ≡ true → (a b : Spot) → SameSpot a b → (arrival : Arrival) → SameOutcome (arrived list a arrival) (arrived list b arrival)
arrived_same list p a b h There = element_same list p a b h
arrived_same list p a b h Null = h
arrived_same list p a b h (Not w) = (h, refl)

outcome_same : (list : code_list.List) → list_all side_placed list.sides.items ≡ true → (r q : Reached) → SameReached r q → SameOutcome (outcome_of list r) (outcome_of list q)
unfolding outcome_of
outcome_same list p r q k =
    subst (λ arrival. SameOutcome (arrived list r.spot r.arrival) (arrived list q.spot arrival)) k.1 (arrived_same list p r.spot q.spot k.0 r.arrival)

map_same : (list : code_list.List) → list_all side_placed list.sides.items ≡ true → (rs qs : List Reached) → AllSame SameReached rs qs → AllSame SameOutcome (map (outcome_of list) rs) (map (outcome_of list) qs)
map_same list p [] [] k = tt
map_same list p [] (q ∷ qs) k = absurd k
map_same list p (r ∷ rs) [] k = absurd k
map_same list p (r ∷ rs) (q ∷ qs) k = (outcome_same list p r q k.0, map_same list p rs qs k.1)

list_same : (list : code_list.List) → list_placed list ≡ true → (value other : Json) → Same value other → AllSame SameOutcome (outcomes_in list value) (outcomes_in list other)
unfolding outcomes_in
list_same list p value other h =
    let parts = both_true (are_placed list.at.items) (list_all side_placed list.sides.items) p in
    let roots : SameSpot (root_spot value) (root_spot other) = record { here = (h, refl); outer = tt } in
    map_same list parts.1 (each list.at.items (root_spot value)) (each list.at.items (root_spot other)) (same_each list.at.items parts.0 (root_spot value) (root_spot other) roots)

-- members in another order change no outcome
pub order_free : (lists : List code_list.List) (value : Json) → IsOrderFree lists value
order_free [] value other p h = tt
order_free (list ∷ lists) value other p h =
    let parts = both_true (list_placed list) (list_all list_placed lists) p in
    append_same SameOutcome (outcomes_in list value) (outcomes_in list other) (outcomes_of lists value) (outcomes_of lists other) (list_same list parts.0 value other h) (order_free lists value other parts.1 h)

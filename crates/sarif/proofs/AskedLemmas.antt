-- Names of which reports ask, and that these decide the reports.
use Rattle.std.proofs.Common.{◌≡◌, ℕ, ◌<◌, Bool, true, false, cond, List, [], ◌∷◌, ◌++◌, length, map, Option, Some, None, option_map, ◌||◌, refl, sym, ap, ap₂, ◌∙◌, ◌+◌, append_assoc, get_or, subst, take, String, string_bytes}
use Rattle.std.specs.Borrow.{Bor}
use Rattle.std.specs.BTreeMap.{is_at}
use Rattle.std.specs.BTreeSet.{BTreeSet, contains}
use Rattle.std.specs.Ordering.{is_eq}
use Rattle.std.specs.declared.alloc.Global.{Global}
use Rattle.std.specs.List.{All, AllByRecursion, filter, flat_map, list_any}
use Rattle.std.specs.Str.{bytes_eq}
use Rattle.std.proofs.lemmas.List.Elements.{All-head, All-tail}
use Rattle.std.proofs.lemmas.List.Folds.{list_any-append}
use Rattle.std.proofs.lemmas.Map.Text.{is_eq-slice_cmp}
use Rattle.std.proofs.lemmas.Slice.Eq.{bytes_eq-Decides}
use Rattle.std.proofs.lemmas.Grind.{flat_map-append}
use Rattle.std.proofs.lemmas.List.{append-nil, map-append, take_more}
use Rattle.found_reports.specs.Found.{NamedHeld}
use Rattle.found_reports.specs.Held.{Held}
use Rattle.found_reports.specs.Names.{name_order}
use Rattle.sarif_log.specs.declared.log.ColumnKind.{ColumnKind}
use Rattle.sarif_log.specs.Log.{ArtifactLocation, Invocation, Location, Log, LogResult, Names, Notification, Run}
use Rattle.sarif.specs.Findings.{Finding, Spot, driver_strings, findings_in, found_by, found_in, is_finding, noted_by, noted_in, notes_of, spot_at, strings_of}
use Rattle.sarif.specs.Rules.{Strings}
use Rattle.sarif.specs.Asked.{DecideReports, Knows, and_name, and_names, asked_at, asked_by, finding_names, invocation_names, location_names, names_in, note_names, result_names, run_names, spot_names}
use Rattle.sarif.specs.Labels.{Placed, placed}
use Rattle.sarif.specs.Meaning.{finding_reports, reports_among, reports_in, run_reports}
use Rattle.sarif.specs.Naming.{location_in, resolved}
use Rattle.sarif.specs.Reading.{Reading, reading_of}
use Rattle.sarif.specs.Texts.{contents_in, held_or_told, source_of, source_under, told_first, told_of}

-- names and more of them
pub and_names_append : (names xs ys : List (List ℕ)) → and_names names (xs ++ ys) ≡ and_names (and_names names xs) ys
unfolding and_names
and_names_append names [] ys = refl
and_names_append names (x ∷ xs) ys = and_names_append (and_name names x) xs ys

-- one name more
pub once_more : (names : List (String Global)) (i : ℕ) (name : String Global) (once : List (List ℕ)) → i < length names → name ≡ get_or names i name → once ≡ and_names [] (map string_bytes (take i names))
    → and_name once (string_bytes name) ≡ and_names [] (map string_bytes (take (i + 1) names))
unfolding and_names
once_more names i name once within here before =
    let one : take (i + 1) names ≡ take i names ++ name ∷ [] = take_more names i name within ∙ ap (λ y. take i names ++ y ∷ []) (sym here) in
    ap (λ xs. and_name xs (string_bytes name)) before
    ∙ sym (and_names_append [] (map string_bytes (take i names)) (string_bytes name ∷ []))
    ∙ ap (and_names []) (sym (ap (map string_bytes) one ∙ map-append string_bytes (take i names) (name ∷ [])))

-- two lists of items
pub added_both : {Y : Type 0} (f : Y → List (List ℕ)) (start mid new : List (List ℕ)) (xs ys : List Y) → mid ≡ start ++ flat_map f xs → new ≡ mid ++ flat_map f ys → new ≡ start ++ flat_map f (xs ++ ys)
added_both f start mid new xs ys first second =
    second ∙ ap (λ zs. zs ++ flat_map f ys) first ∙ append_assoc start (flat_map f xs) (flat_map f ys) ∙ ap (λ zs. start ++ zs) (sym (flat_map-append f xs ys))

-- one item more
pub one_item : {X Y : Type 0} (view : X → Y) (f : Y → List (List ℕ)) (start before after : List (List ℕ)) (its : List X) (i : ℕ) (it : X) → i < length its → it ≡ get_or its i it
    → before ≡ start ++ flat_map f (map view (take i its)) → after ≡ before ++ f (view it) → after ≡ start ++ flat_map f (map view (take (i + 1) its))
one_item view f start before after its i it within here first second =
    let those = flat_map f (map view (take i its)) in
    let one : take (i + 1) its ≡ take i its ++ it ∷ [] = take_more its i it within ∙ ap (λ x. take i its ++ x ∷ []) (sym here) in
    let parts : flat_map f (map view (take (i + 1) its)) ≡ those ++ f (view it) =
    ap (λ xs. flat_map f (map view xs)) one
    ∙ ap (flat_map f) (map-append view (take i its) (it ∷ []))
    ∙ flat_map-append f (map view (take i its)) (view it ∷ [])
    ∙ ap (λ xs. those ++ xs) (append-nil (f (view it))) in
    second ∙ ap (λ xs. xs ++ f (view it)) first ∙ append_assoc start those (f (view it)) ∙ ap (λ xs. start ++ xs) (sym parts)

-- a result's names, if it is a finding
pub result_named : (names : Names) (it : LogResult) → is_finding it ≡ true → result_names names it ≡ flat_map (location_names names) (it.locations ++ it.related)
unfolding result_names
result_named names it is = rw is refl

pub result_unnamed : (names : Names) (it : LogResult) → is_finding it ≡ false → result_names names it ≡ []
unfolding result_names
result_unnamed names it none = rw none refl

-- ---- names that are known

pub knows_none : (set : BTreeSet (Bor (List ℕ))) (names : List (String Global)) → set.keys ≡ [] → names ≡ [] → Knows set (map string_bytes names)
knows_none set names none empty name = ap (list_any (is_at (name_order name))) none ∙ sym (ap (λ those. list_any (λ other. bytes_eq other name.now) (map string_bytes those)) empty)

known_or_new : (is before : Bool) → cond is true before ≡ (before || (is || false))
known_or_new true true = refl
known_or_new true false = refl
known_or_new false true = refl
known_or_new false false = refl

pub knows_added : (old new : BTreeSet (Bor (List ℕ))) (names more : List (List ℕ)) (name : Bor (List ℕ)) → Knows old names
    → ((q : Bor (List ℕ)) → contains name_order new q ≡ cond (is_eq (name_order name q)) true (contains name_order old q))
    → more ≡ names ++ name.now ∷ [] → Knows new more
knows_added old new names more name knows updates pushed q =
    updates q
    ∙ ap₂ (λ is before. cond is true before) (is_eq-slice_cmp name.now q.now) (knows q)
    ∙ known_or_new (bytes_eq name.now q.now) (list_any (λ other. bytes_eq other q.now) names)
    ∙ sym (ap (list_any (λ other. bytes_eq other q.now)) pushed ∙ list_any-append (λ other. bytes_eq other q.now) names (name.now ∷ []))

-- ---- findings ask for what stands in the log

spots_ask : (names : Names) (strings : Strings) (its : List Location) → flat_map (spot_names names) (map (spot_at strings) its) ≡ flat_map (location_names names) its
spots_ask names strings [] = refl
spots_ask names strings (it ∷ its) = ap (λ rest. location_names names it ++ rest) (spots_ask names strings its)

note_asks : (names : Names) (strings : Strings) (it : Notification) → finding_names names (noted_by strings it) ≡ note_names names it
unfolding finding_names noted_by
note_asks names strings it = ap (flat_map (spot_names names)) (append-nil (map (spot_at strings) it.locations)) ∙ spots_ask names strings it.locations

notes_ask : (names : Names) (strings : Strings) (its : List Notification) → flat_map (finding_names names) (map (noted_by strings) its) ≡ flat_map (note_names names) its
notes_ask names strings [] = refl
notes_ask names strings (it ∷ its) = ap₂ (λ first rest. first ++ rest) (note_asks names strings it) (notes_ask names strings its)

invocations_ask : (names : Names) (strings : Strings) (its : List Invocation) → flat_map (finding_names names) (flat_map (noted_in strings) its) ≡ flat_map (invocation_names names) its
unfolding invocation_names
invocations_ask names strings [] = refl
invocations_ask names strings (it ∷ its) =
    flat_map-append (finding_names names) (noted_in strings it) (flat_map (noted_in strings) its)
    ∙ ap₂ (λ first rest. first ++ rest) (notes_ask names strings (notes_of it)) (invocations_ask names strings its)

result_asks : (names : Names) (run : Run) (it : LogResult) → finding_names names (found_in run it) ≡ flat_map (location_names names) (it.locations ++ it.related)
unfolding finding_names found_in found_by
result_asks names run it =
    ap (flat_map (spot_names names)) (sym (map-append (spot_at (strings_of run it)) it.locations it.related))
    ∙ spots_ask names (strings_of run it) (it.locations ++ it.related)

results_ask : (names : Names) (run : Run) (its : List LogResult) → flat_map (finding_names names) (map (found_in run) (filter is_finding its)) ≡ flat_map (result_names names) its
unfolding result_names
results_ask names run [] = refl
results_ask names run (it ∷ its) =
    let asked = flat_map (location_names names) (it.locations ++ it.related) in
    elim (is_finding it) as (λ b. flat_map (finding_names names) (map (found_in run) (cond b (it ∷ filter is_finding its) (filter is_finding its))) ≡ cond b asked [] ++ flat_map (result_names names) its)
    [ true ↦ ap₂ (λ first rest. first ++ rest) (result_asks names run it) (results_ask names run its) | false ↦ results_ask names run its ]

-- what a tool says of its own run, and then the results
pub run_asks : (run : Run) → run_names run ≡ flat_map (invocation_names run.names) run.invocations ++ flat_map (result_names run.names) run.results
unfolding run_names findings_in
run_asks run =
    flat_map-append (finding_names run.names) (flat_map (noted_in (driver_strings run)) run.invocations) (map (found_in run) (filter is_finding run.results))
    ∙ ap₂ (λ first rest. first ++ rest) (invocations_ask run.names (driver_strings run) run.invocations) (results_ask run.names run run.results)

-- the names of a run
pub run_added : (run : Run) (start mid new : List (List ℕ)) → mid ≡ start ++ flat_map (invocation_names run.names) run.invocations
    → new ≡ mid ++ flat_map (result_names run.names) run.results → new ≡ start ++ run_names run
run_added run start mid new first second =
    let notes = flat_map (invocation_names run.names) run.invocations in
    let results = flat_map (result_names run.names) run.results in
    second ∙ ap (λ xs. xs ++ results) first ∙ append_assoc start notes results ∙ ap (λ xs. start ++ xs) (sym (run_asks run))

-- ---- what is told of all the names together is told of each

abbrev Alike : (List ℕ → Held) → (List ℕ → Held) → List ℕ → Type 0
Alike told other name = told name ≡ other name

abbrev AllAlike : (List ℕ → Held) → (List ℕ → Held) → List (List ℕ) → Type 0
AllAlike told other names = AllByRecursion (Alike told other) names

-- one of these is the name
alike_among : (told other : List ℕ → Held) (names : List (List ℕ)) (name : List ℕ) → AllAlike told other names → list_any (λ it. bytes_eq it name) names ≡ true → Alike told other name
alike_among told other [] name all there = absurd (cc)
alike_among told other (x ∷ xs) name all there =
    elim (bytes_eq x name) as (λ b. (b ≡ true → x ≡ name) → (b || list_any (λ it. bytes_eq it name) xs ≡ true) → Alike told other name)
    [ true ↦ λ same _. subst (Alike told other) (same refl) all.0 | false ↦ λ _ rest. alike_among told other xs name all.1 rest ]
    (bytes_eq-Decides x name).0 there

alike_append : (told other : List ℕ → Held) (xs ys : List (List ℕ)) → AllAlike told other (xs ++ ys) → AllAlike told other xs × AllAlike told other ys
alike_append told other [] ys all = (tt, all)
alike_append told other (x ∷ xs) ys all = let rest = alike_append told other xs ys all.1 in ((all.0, rest.0), rest.1)

-- one name more
alike_one : (told other : List ℕ → Held) (names : List (List ℕ)) (name : List ℕ) → AllAlike told other (and_name names name) → AllAlike told other names × Alike told other name
alike_one told other names name =
    elim (list_any (λ it. bytes_eq it name) names) as (λ b. (b ≡ true → AllAlike told other names → Alike told other name) → AllAlike told other (cond b names (names ++ name ∷ [])) → AllAlike told other names × Alike told other name)
    [ true ↦ λ among all. (all, among refl all) | false ↦ λ _ all. let both = alike_append told other names (name ∷ []) all in (both.0, both.1.0) ]
    (λ there all. alike_among told other names name all there)

alike_each : (told other : List ℕ → Held) (names xs : List (List ℕ)) → AllAlike told other (and_names names xs) → AllAlike told other names × AllAlike told other xs
unfolding and_names
alike_each told other names [] all = (all, tt)
alike_each told other names (x ∷ xs) all =
    let rest = alike_each told other (and_name names x) xs all in
    let one = alike_one told other names x rest.0 in
    (one.0, (one.1, rest.1))

by_recursion : (told other : List ℕ → Held) (names : List (List ℕ)) → All (Alike told other) names → AllAlike told other names
by_recursion told other [] all = tt
by_recursion told other (x ∷ xs) all = (All-head (Alike told other) x xs all, by_recursion told other xs (All-tail (Alike told other) x xs all))

-- ---- and decides what the reports are

same_told : (told other : List ℕ → Held) (name uri : List ℕ) → Alike told other name → Alike told other uri → told_of told name uri ≡ told_of other name uri
unfolding told_of
same_told told other name uri first second = ap₂ (told_first name uri) first second

same_held : (told other : List ℕ → Held) (name uri : List ℕ) (contents : Option (List ℕ)) → Alike told other name → Alike told other uri → held_or_told told name uri contents ≡ held_or_told other name uri contents
same_held told other name uri None first second = same_told told other name uri first second
same_held told other name uri (Some text) first second = refl

same_by : (told other : List ℕ → Held) (names : Names) (it : ArtifactLocation) (base uri : Option (List ℕ)) → AllAlike told other (asked_by names base uri)
    → option_map (λ uri. source_under told names it (resolved names.bases base uri) uri) uri ≡ option_map (λ uri. source_under other names it (resolved names.bases base uri) uri) uri
same_by told other names it base None all = refl
same_by told other names it base (Some uri) all =
    let name = resolved names.bases base uri in
    ap Some (same_held told other name uri (contents_in names it name) all.0 all.1.0)

same_source : (told other : List ℕ → Held) (names : Names) (it : ArtifactLocation) → AllAlike told other (asked_at names it) → source_of told names it ≡ source_of other names it
unfolding source_of asked_at
same_source told other names it all = same_by told other names it (location_in names it).base (location_in names it).uri all

same_placed : (told other : List ℕ → Held) (reading : Reading) (spot : Spot) → AllAlike told other (spot_names reading.names spot) → placed told reading spot ≡ placed other reading spot
same_placed told other reading spot all =
    let with_source : Option NamedHeld → Placed = λ source. record (placed told reading spot) { source = source } in
    ap with_source (same_source told other reading.names spot.location.artifact all)

same_spots : (told other : List ℕ → Held) (reading : Reading) (spots : List Spot) → AllAlike told other (flat_map (spot_names reading.names) spots) → map (placed told reading) spots ≡ map (placed other reading) spots
same_spots told other reading [] all = refl
same_spots told other reading (spot ∷ rest) all =
    let both = alike_append told other (spot_names reading.names spot) (flat_map (spot_names reading.names) rest) all in
    ap₂ (λ x xs. x ∷ xs) (same_placed told other reading spot both.0) (same_spots told other reading rest both.1)

same_finding : (told other : List ℕ → Held) (reading : Reading) (finding : Finding) → AllAlike told other (finding_names reading.names finding) → finding_reports told reading finding ≡ finding_reports other reading finding
unfolding finding_reports finding_names
same_finding told other reading finding all =
    let apart = subst (AllAlike told other) (flat_map-append (spot_names reading.names) finding.locations finding.related) all in
    let both = alike_append told other (flat_map (spot_names reading.names) finding.locations) (flat_map (spot_names reading.names) finding.related) apart in
    ap₂ (reports_among reading finding) (same_spots told other reading finding.locations both.0) (same_spots told other reading finding.related both.1)

same_findings : (told other : List ℕ → Held) (reading : Reading) (findings : List Finding) → AllAlike told other (flat_map (finding_names reading.names) findings) → flat_map (finding_reports told reading) findings ≡ flat_map (finding_reports other reading) findings
same_findings told other reading [] all = refl
same_findings told other reading (finding ∷ rest) all =
    let both = alike_append told other (finding_names reading.names finding) (flat_map (finding_names reading.names) rest) all in
    ap₂ (λ xs ys. xs ++ ys) (same_finding told other reading finding both.0) (same_findings told other reading rest both.1)

same_run : (told other : List ℕ → Held) (columns : Option ColumnKind) (run : Run) → AllAlike told other (run_names run) → run_reports told columns run ≡ run_reports other columns run
unfolding run_reports run_names reading_of
same_run told other columns run all = same_findings told other (reading_of columns run) (findings_in run) all

same_runs : (told other : List ℕ → Held) (columns : Option ColumnKind) (runs : List Run) → AllAlike told other (flat_map run_names runs) → flat_map (run_reports told columns) runs ≡ flat_map (run_reports other columns) runs
same_runs told other columns [] all = refl
same_runs told other columns (run ∷ rest) all =
    let both = alike_append told other (run_names run) (flat_map run_names rest) all in
    ap₂ (λ xs ys. xs ++ ys) (same_run told other columns run both.0) (same_runs told other columns rest both.1)

pub names_decide : (log : Log) → DecideReports log
unfolding names_in reports_in
names_decide log told other columns all =
    let each = alike_each told other [] (flat_map run_names log.runs) (by_recursion told other (names_in log) all) in
    same_runs told other columns log.runs each.1

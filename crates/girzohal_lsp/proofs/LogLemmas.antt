-- A log none of whose names means a file has nothing on it.
use Rattle.std.proofs.Common.{◌≡◌, ℕ, Bool, true, false, cond, List, [], ◌∷◌, ◌++◌, map, Option, Some, None, option_map, get_or, ◌||◌, refl, sym, ap, ◌∙◌, subst}
use Rattle.std.specs.Prelude.{if◌then◌else◌, not}
use Rattle.std.specs.declared.ops.Range.{Range}
use Rattle.std.specs.List.{All, AllByRecursion, cons_option, filter, filter_map, flat_map, list_any}
use Rattle.std.specs.Str.{bytes_eq, is_utf8}
use Rattle.std.proofs.lemmas.Grind.{flat_map-append}
use Rattle.std.proofs.lemmas.List.Elements.{All-head, All-tail, filter_map-append}
use Rattle.std.proofs.lemmas.Slice.Eq.{bytes_eq-Decides}
use Rattle.oxc_protocol.specs.Parts.{OxcParts}
use Rattle.found_reports.specs.Found.{Found, NamedHeld, found_on}
use Rattle.found_reports.specs.Held.{Held, holds, lacks}
use Rattle.sarif_log.specs.declared.log.ColumnKind.{ColumnKind}
use Rattle.sarif_log.specs.Log.{ArtifactLocation, Log, Names, Run}
use Rattle.sarif.specs.Findings.{Finding, Spot, findings_in}
use Rattle.sarif.specs.Asked.{and_name, and_names, asked_at, asked_by, finding_names, names_in, run_names, spot_names}
use Rattle.sarif.specs.Labels.{Placed, is_beside, label_at, labels_with, placed, span_in_held}
use Rattle.sarif.specs.Meaning.{aside, aside_at, aside_in, asides_beside, finding_reports, given_place, labeled_reports, main_diagnostic, nowhere, reports_among, reports_at, reports_by, reports_in, run_reports, where_named}
use Rattle.sarif.specs.Naming.{location_in, resolved}
use Rattle.sarif.specs.Reading.{Reading, reading_of}
use Rattle.sarif.specs.Texts.{contents_in, held_or_told, source_of, source_under, told_first, told_of}
use Rattle.percent_encoding.specs.Percent.{percent_decode}
use Rattle.source_store.specs.Matching.{is_named_if, means_file}
use Rattle.source_store.specs.Named.{decoded, path_in}
use Rattle.source_store.specs.declared.named.Spelling.TheVariants.{Uri}
use Rattle.source_store.specs.Given.{IsSaid, fitted, told_of as told_of_store}
use Rattle.found_reports.specs.declared.sources.Lack.TheVariants.{Missing}
use Rattle.girzohal_lsp.specs.Found.{AreFitted, ShowsLog, log_columns, pick, told_open}
use Rattle.girzohal_lsp.specs.declared.words.Asked.{Asked}

abbrev Miss : List ℕ → List ℕ → Type 0
Miss path name = means_file Uri path name ≡ false

abbrev Misses : List ℕ → List (List ℕ) → Type 0
Misses path names = AllByRecursion (Miss path) names

-- ---- names of a log are each among those that it names once

missed_among : (path : List ℕ) (names : List (List ℕ)) (name : List ℕ) → Misses path names → list_any (λ it. bytes_eq it name) names ≡ true → Miss path name
missed_among path [] name all there = absurd (cc)
missed_among path (x ∷ xs) name all there =
    elim (bytes_eq x name) as (λ b. (b ≡ true → x ≡ name) → (b || list_any (λ it. bytes_eq it name) xs ≡ true) → Miss path name)
    [ true ↦ λ same _. subst (Miss path) (same refl) all.0 | false ↦ λ _ rest. missed_among path xs name all.1 rest ]
    (bytes_eq-Decides x name).0 there

missed_parts : (path : List ℕ) (xs ys : List (List ℕ)) → Misses path (xs ++ ys) → Misses path xs × Misses path ys
missed_parts path [] ys all = (tt, all)
missed_parts path (x ∷ xs) ys all = let rest = missed_parts path xs ys all.1 in ((all.0, rest.0), rest.1)

missed_one : (path : List ℕ) (names : List (List ℕ)) (name : List ℕ) → Misses path (and_name names name) → Misses path names × Miss path name
missed_one path names name =
    elim (list_any (λ it. bytes_eq it name) names) as (λ b. (b ≡ true → Misses path names → Miss path name) → Misses path (cond b names (names ++ name ∷ [])) → Misses path names × Miss path name)
    [ true ↦ λ among all. (all, among refl all) | false ↦ λ _ all. let both = missed_parts path names (name ∷ []) all in (both.0, both.1.0) ]
    (λ there all. missed_among path names name all there)

missed_each : (path : List ℕ) (names xs : List (List ℕ)) → Misses path (and_names names xs) → Misses path names × Misses path xs
unfolding and_names
missed_each path names [] all = (all, tt)
missed_each path names (x ∷ xs) all =
    let rest = missed_each path (and_name names x) xs all in
    let one = missed_one path names x rest.0 in
    (one.0, (one.1, rest.1))

by_recursion : (path : List ℕ) (names : List (List ℕ)) → All (Miss path) names → Misses path names
by_recursion path [] all = tt
by_recursion path (x ∷ xs) all = (All-head (Miss path) x xs all, by_recursion path xs (All-tail (Miss path) x xs all))

-- ---- files of these names

abbrev FileMisses : List ℕ → Option NamedHeld → Type 0
FileMisses path None = Unit {0}
FileMisses path (Some file) = Miss path file.name

first_misses : (path name uri : List ℕ) (first second : Held) → Miss path name → Miss path uri → Miss path (told_first name uri first second).name
first_misses path name uri (holds text) second here there = here
first_misses path name uri (lacks why) (holds text) here there = there
first_misses path name uri (lacks why) (lacks other) here there = here

held_misses : (path : List ℕ) (told : List ℕ → Held) (name uri : List ℕ) (contents : Option (List ℕ)) → Miss path name → Miss path uri → Miss path (held_or_told told name uri contents).name
unfolding told_of
held_misses path told name uri None here there = first_misses path name uri (told name) (told uri) here there
held_misses path told name uri (Some text) here there = here

file_misses_by : (path : List ℕ) (told : List ℕ → Held) (names : Names) (it : ArtifactLocation) (base uri : Option (List ℕ)) → Misses path (asked_by names base uri)
    → FileMisses path (option_map (λ uri. source_under told names it (resolved names.bases base uri) uri) uri)
file_misses_by path told names it base None all = tt
file_misses_by path told names it base (Some uri) all =
    let name = resolved names.bases base uri in
    held_misses path told name uri (contents_in names it name) all.0 all.1.0

file_misses : (path : List ℕ) (told : List ℕ → Held) (names : Names) (it : ArtifactLocation) → Misses path (asked_at names it) → FileMisses path (source_of told names it)
unfolding source_of asked_at
file_misses path told names it all = file_misses_by path told names it (location_in names it).base (location_in names it).uri all

abbrev AllPlacedMiss : List ℕ → List Placed → Type 0
AllPlacedMiss path [] = Unit {0}
AllPlacedMiss path (it ∷ rest) = FileMisses path it.source × AllPlacedMiss path rest

placed_miss : (path : List ℕ) (told : List ℕ → Held) (reading : Reading) (spots : List Spot) → Misses path (flat_map (spot_names reading.names) spots) → AllPlacedMiss path (map (placed told reading) spots)
placed_miss path told reading [] all = tt
placed_miss path told reading (spot ∷ rest) all =
    let both = missed_parts path (spot_names reading.names spot) (flat_map (spot_names reading.names) rest) all in
    (file_misses path told reading.names spot.location.artifact both.0, placed_miss path told reading rest both.1)

placed_parts : (path : List ℕ) (xs ys : List Placed) → AllPlacedMiss path xs → AllPlacedMiss path ys → AllPlacedMiss path (xs ++ ys)
placed_parts path [] ys first second = second
placed_parts path (x ∷ xs) ys first second = (first.0, placed_parts path xs ys first.1 second)

-- ---- nothing is picked of their reports

none_one : (path : List ℕ) (it : Found) (rest : List Found) → Miss path it.name → filter_map (pick Uri path) rest ≡ [] → filter_map (pick Uri path) (it ∷ rest) ≡ []
unfolding pick
none_one path it rest miss none = ap (λ (b : Bool). cons_option (if b then Some it.diagnostic else None) (filter_map (pick Uri path) rest)) miss ∙ none

none_both : (path : List ℕ) (xs ys : List Found) → filter_map (pick Uri path) xs ≡ [] → filter_map (pick Uri path) ys ≡ [] → filter_map (pick Uri path) (xs ++ ys) ≡ []
none_both path xs ys first second =
    filter_map-append (pick Uri path) xs ys ∙ (ap (λ found. found ++ filter_map (pick Uri path) ys) first ∙ second)

none_aside_at : (path : List ℕ) (reading : Reading) (finding : Finding) (it : Placed) (file : NamedHeld) (span : Option (Range ℕ)) → Miss path file.name
    → filter_map (pick Uri path) (aside_at reading finding it.region it.message file span ∷ []) ≡ []
none_aside_at path reading finding it file None miss = none_one path (aside_at reading finding it.region it.message file None) [] miss refl
none_aside_at path reading finding it file (Some span) miss = none_one path (aside_at reading finding it.region it.message file (Some span)) [] miss refl

none_aside_in : (path : List ℕ) (reading : Reading) (finding : Finding) (it : Placed) (file : Option NamedHeld) → FileMisses path file → filter_map (pick Uri path) (aside_in reading finding it file) ≡ []
none_aside_in path reading finding it None miss = refl
none_aside_in path reading finding it (Some file) miss = none_aside_at path reading finding it file (span_in_held reading file.held it.region) miss

none_aside : (path : List ℕ) (reading : Reading) (finding : Finding) (it : Placed) → FileMisses path it.source → filter_map (pick Uri path) (aside reading finding it) ≡ []
unfolding aside
none_aside path reading finding it miss = none_aside_in path reading finding it it.source miss

none_asides : (path : List ℕ) (reading : Reading) (finding : Finding) (others : List Placed) → AllPlacedMiss path others → filter_map (pick Uri path) (flat_map (aside reading finding) others) ≡ []
none_asides path reading finding [] all = refl
none_asides path reading finding (it ∷ rest) all =
    none_both path (aside reading finding it) (flat_map (aside reading finding) rest) (none_aside path reading finding it all.0) (none_asides path reading finding rest all.1)

kept_miss : (path : List ℕ) (keep : Placed → Bool) (others : List Placed) → AllPlacedMiss path others → AllPlacedMiss path (filter keep others)
kept_miss path keep [] all = tt
kept_miss path keep (it ∷ rest) all =
    elim (keep it) as (λ b. AllPlacedMiss path (cond b (it ∷ filter keep rest) (filter keep rest))) [ true ↦ (all.0, kept_miss path keep rest all.1) | false ↦ kept_miss path keep rest all.1 ]

none_by : (path : List ℕ) (reading : Reading) (finding : Finding) (first : Placed) (file : NamedHeld) (others : List Placed) (span : Option (Range ℕ)) → Miss path file.name → AllPlacedMiss path others
    → filter_map (pick Uri path) (reports_by reading finding first file others span) ≡ []
none_by path reading finding first file others None miss all =
    none_one path (found_on file (main_diagnostic reading finding []) (Some (given_place first.region))) (flat_map (aside reading finding) others) miss (none_asides path reading finding others all)
none_by path reading finding first file others (Some span) miss all =
    none_one path (found_on file (main_diagnostic reading finding (labels_with reading file (label_at true first.message span ∷ []) others)) None) (asides_beside reading finding file others) miss
    (none_asides path reading finding (filter (λ it. not (is_beside reading file it)) others) (kept_miss path (λ it. not (is_beside reading file it)) others all))

none_at : (path : List ℕ) (reading : Reading) (finding : Finding) (first : Placed) (file : NamedHeld) (others : List Placed) → Miss path file.name → AllPlacedMiss path others
    → filter_map (pick Uri path) (reports_at reading finding first file others) ≡ []
unfolding reports_at
none_at path reading finding first file others miss all = none_by path reading finding first file others (span_in_held reading file.held first.region) miss all

none_where : (path : List ℕ) (reading : Reading) (finding : Finding) (it : Placed) (source : Option NamedHeld) (later : List Found) (others : List Placed) → FileMisses path source → AllPlacedMiss path others
    → filter_map (pick Uri path) later ≡ [] → filter_map (pick Uri path) (where_named source later (λ file. reports_at reading finding it file others)) ≡ []
none_where path reading finding it None later others miss all none = none
none_where path reading finding it (Some file) later others miss all none = none_at path reading finding it file others miss all

none_among : (path : List ℕ) (reading : Reading) (finding : Finding) (locations related : List Placed) → Miss path [] → AllPlacedMiss path locations → AllPlacedMiss path related
    → filter_map (pick Uri path) (reports_among reading finding locations related) ≡ []
unfolding reports_among
none_among path reading finding [] related bare all others = none_one path (found_on nowhere (main_diagnostic reading finding []) None) [] bare refl
none_among path reading finding (it ∷ rest) related bare all others =
    none_where path reading finding it it.source (reports_among reading finding rest related) (rest ++ related) all.0 (placed_parts path rest related all.1 others)
    (none_among path reading finding rest related bare all.1 others)

none_finding : (path : List ℕ) (told : List ℕ → Held) (reading : Reading) (finding : Finding) → Miss path [] → Misses path (finding_names reading.names finding)
    → filter_map (pick Uri path) (finding_reports told reading finding) ≡ []
unfolding finding_reports finding_names
none_finding path told reading finding bare all =
    let apart = subst (Misses path) (flat_map-append (spot_names reading.names) finding.locations finding.related) all in
    let both = missed_parts path (flat_map (spot_names reading.names) finding.locations) (flat_map (spot_names reading.names) finding.related) apart in
    none_among path reading finding (map (placed told reading) finding.locations) (map (placed told reading) finding.related) bare
    (placed_miss path told reading finding.locations both.0) (placed_miss path told reading finding.related both.1)

none_findings : (path : List ℕ) (told : List ℕ → Held) (reading : Reading) (findings : List Finding) → Miss path [] → Misses path (flat_map (finding_names reading.names) findings)
    → filter_map (pick Uri path) (flat_map (finding_reports told reading) findings) ≡ []
none_findings path told reading [] bare all = refl
none_findings path told reading (finding ∷ rest) bare all =
    let both = missed_parts path (finding_names reading.names finding) (flat_map (finding_names reading.names) rest) all in
    none_both path (finding_reports told reading finding) (flat_map (finding_reports told reading) rest) (none_finding path told reading finding bare both.0) (none_findings path told reading rest bare both.1)

none_run : (path : List ℕ) (told : List ℕ → Held) (columns : Option ColumnKind) (run : Run) → Miss path [] → Misses path (run_names run) → filter_map (pick Uri path) (run_reports told columns run) ≡ []
unfolding run_reports run_names reading_of
none_run path told columns run bare all = none_findings path told (reading_of columns run) (findings_in run) bare all

none_runs : (path : List ℕ) (told : List ℕ → Held) (columns : Option ColumnKind) (runs : List Run) → Miss path [] → Misses path (flat_map run_names runs)
    → filter_map (pick Uri path) (flat_map (run_reports told columns) runs) ≡ []
none_runs path told columns [] bare all = refl
none_runs path told columns (run ∷ rest) bare all =
    let both = missed_parts path (run_names run) (flat_map run_names rest) all in
    none_both path (run_reports told columns run) (flat_map (run_reports told columns) rest) (none_run path told columns run bare both.0) (none_runs path told columns rest bare both.1)

-- ---- what is given of names, and what is shown then

abbrev said : Option Held → Held
said None = lacks Missing
said (Some held) = fitted held

is_said : (told : Option Held) → IsSaid told (said told)
is_said None = tt
is_said (Some held) = refl

none_meant : (path : List ℕ) (told : List ℕ → Held) (columns : Option ColumnKind) (log : Log) → Miss path [] → All (Miss path) (names_in log)
    → filter_map (pick Uri path) (reports_in told columns log) ≡ []
unfolding names_in reports_in
none_meant path told columns log bare all =
    let each = missed_each path [] (flat_map run_names log.runs) (by_recursion path (names_in log) all) in
    none_runs path told columns log.runs bare each.1

-- a name without a letter means no file
bare_by : (path : List ℕ) (b : Bool) → is_named_if path (if b then Some [] else None) ≡ false
bare_by path true = refl
bare_by path false = refl

bare_missed : (path : List ℕ) → Miss path []
unfolding means_file path_in decoded percent_decode
bare_missed path = bare_by path (is_utf8 (percent_decode []))

pub nothing_shown : (asked : Asked) (log : Log) (path text : List ℕ) (shown : List OxcParts) → All (Miss path) (names_in log) → shown ≡ [] → ShowsLog asked log path text shown
nothing_shown asked log path text shown all none =
    let given : List ℕ → Held = λ name. said (told_of_store (told_open path text) Uri name) in
    record {
      given = given;
      told_so = λ k d within. is_said (told_of_store (told_open path text) Uri (get_or (names_in log) k d));
      are = subst (λ (picked : List OxcParts). AreFitted text picked shown) (sym (none_meant path given (log_columns asked.columns) log (bare_missed path) all)) none;
    }

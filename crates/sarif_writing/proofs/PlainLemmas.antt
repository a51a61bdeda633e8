-- A log has no float, and isn't nested deep.
use Rattle.std.proofs.Common.{◌≡◌, ℕ, Bool, suc, ◌≤◌, List, [], ◌∷◌, map, true, false, codes, Option, Some, None, option_map, unwrap_or, refl, arith}
use Rattle.std.specs.Prelude.{is_none, is_some, ◌&&◌, ◌++◌, slice_get, slice_index_or, drop, zero, if◌then◌else◌}
use Rattle.std.specs.List.{remove}
use Rattle.serde_json.specs.Data.{Data, string, array, item, no_items, Members, member, no_members, object, put, depth}
use Rattle.serde_json.specs.View.{items_of}
use Rattle.serde_json.specs.Written.{has_float}
use Rattle.codespan.specs.Texts.{NamedText}
use Rattle.documents.specs.Written.{put_some, text_value, whole_number}
use Rattle.documents.proofs.PlainLemmas.{IsPlain, ArePlainItems, ArePlain, plain_put, plain_object}
use Rattle.oxc_span.specs.Label.{Label}
use Rattle.oxc_protocol.specs.Parts.{OxcParts}
use Rattle.found_reports.specs.Fixes.{ChangeParts}
use Rattle.found_reports.specs.declared.places.GivenPlace.{GivenPlace}
use Rattle.render_files.specs.Given.{GivenReport}
use Rattle.render_files.specs.Shown.{placed_labels}
use Rattle.sarif_writing.specs.Rules.{and_rule, and_rules, place_in, rule_of, rule_value, rules_of}
use Rattle.sarif_writing.specs.Written.{artifact_value, bare_location, breaks_value, change_value, counted, file_value, fix_value, given_region, head_place, label_location, level_text, log_of, log_with, map_beside, map_between, message_value, place_members, placed_value, reference_value, region_given, region_place, region_value, rows_region, rule_place, run_of, run_with, said_members, some_array, tool_value, unread_value}

-- each of a list
EachPlain : ℕ → List Data → Type 0
EachPlain most [] = Unit {0}
EachPlain most (d ∷ ds) = IsPlain most d × EachPlain most ds

OnePlain : ℕ → Option Data → Type 0
OnePlain most None = Unit {0}
OnePlain most (Some d) = IsPlain most d

-- ---- members and items

plain_put_some : (most : ℕ) (k : List ℕ) (o : Option Data) (ms : Members) → OnePlain most o → ArePlain most ms → ArePlain most (put_some k o ms)
unfolding OnePlain
plain_put_some most k None ms new rest = rest
plain_put_some most k (Some d) ms new rest = plain_put most k d ms new rest

plain_items : (most : ℕ) (ds : List Data) → EachPlain most ds → ArePlainItems most (items_of ds)
unfolding EachPlain
plain_items most [] each = record { whole = refl; shallow = omega arith }
plain_items most (d ∷ ds) each =
    let rest = plain_items most ds each.1 in
    record { whole = rw each.0.whole rest.whole; shallow = omega (arith, each.0.shallow, rest.shallow) }

plain_array : (most : ℕ) (ds : List Data) → EachPlain most ds → IsPlain (suc most) (array (items_of ds))
plain_array most ds each =
    let are = plain_items most ds each in
    record { whole = are.whole; shallow = omega (arith, are.shallow) }

each_beside : {A B : Type 0} (most : ℕ) (f : B → A → Data) → ((y : B) (x : A) → IsPlain most (f y x)) → (other : B) (ys : List B) (xs : List A)
    → EachPlain most (map_beside f other ys xs)
unfolding EachPlain
each_beside most f plain other ys [] = tt
each_beside most f plain other [] (x ∷ xs) = (plain other x, each_beside most f plain other [] xs)
each_beside most f plain other (y ∷ ys) (x ∷ xs) = (plain y x, each_beside most f plain other ys xs)

each_between : {A B C : Type 0} (most : ℕ) (f : B → C → A → Data) → ((y : B) (z : C) (x : A) → IsPlain most (f y z x)) → (other : B) (last : C) (ys : List B) (zs : List C) (xs : List A)
    → EachPlain most (map_between f other last ys zs xs)
unfolding EachPlain
each_between most f plain other last ys zs [] = tt
each_between most f plain other last ys zs (x ∷ xs) =
    (plain (slice_index_or ys 0 other) (slice_index_or zs 0 last) x, each_between most f plain other last (drop 1 ys) (drop 1 zs) xs)

each_map : {A : Type 0} (most : ℕ) (f : A → Data) → ((x : A) → IsPlain most (f x)) → (xs : List A) → EachPlain most (map f xs)
unfolding EachPlain
each_map most f plain [] = tt
each_map most f plain (x ∷ xs) = (plain x, each_map most f plain xs)

each_push : (most : ℕ) (ds : List Data) (d : Data) → EachPlain most ds → IsPlain most d → EachPlain most (ds ++ d ∷ [])
unfolding EachPlain
each_push most [] d each new = (new, tt)
each_push most (x ∷ ds) d each new = (each.0, each_push most ds d each.1 new)

one_of : (most : ℕ) (ds : List Data) (at : ℕ) (other : Data) → EachPlain most ds → IsPlain most other → IsPlain most (unwrap_or (slice_get ds at) other)
unfolding EachPlain
one_of most [] at other each plain = plain
one_of most (d ∷ ds) zero other each plain = each.0
one_of most (d ∷ ds) (suc at) other each plain = one_of most ds at other each.1 plain

others_of : (most : ℕ) (ds : List Data) (at : ℕ) → EachPlain most ds → EachPlain most (remove ds at)
unfolding EachPlain
others_of most [] zero each = tt
others_of most [] (suc at) each = tt
others_of most (d ∷ ds) zero each = each.1
others_of most (d ∷ ds) (suc at) each = (each.0, others_of most ds at each.1)

plain_some_array : (most : ℕ) (ds : List Data) → EachPlain most ds → OnePlain (suc most) (some_array ds)
unfolding OnePlain
plain_some_array most [] each = tt
plain_some_array most (d ∷ ds) each = plain_array most (d ∷ ds) each

plain_text : (most : ℕ) (it : Option (List ℕ)) → OnePlain most (text_value it)
unfolding OnePlain
plain_text most None = tt
plain_text most (Some bytes) = record { whole = refl; shallow = omega arith }

plain_number : (most : ℕ) (it : Option ℕ) → OnePlain most (option_map whole_number it)
unfolding OnePlain
plain_number most None = tt
plain_number most (Some n) = record { whole = refl; shallow = omega arith }

-- ---- rules

plain_rule_members : (number url : Option (List ℕ)) → IsPlain 1 (rule_value number url)
unfolding rule_value
plain_rule_members number url =
    plain_object 0 _ (plain_put_some 0 (codes "helpUri") (text_value url) (put (codes "id") (string (unwrap_or number [])) no_members) (plain_text 0 url) (record { whole = refl; shallow = omega arith }))

pub plain_rule : (number url : Option (List ℕ)) → has_float (rule_value number url) ≡ false
plain_rule number url = (plain_rule_members number url).whole

one_rule : (it : OxcParts) → OnePlain 1 (rule_of it)
unfolding OnePlain rule_of
one_rule it =
    elim (is_none it.code.number && is_none it.url) as (λ v. OnePlain 1 (if v then None else Some (rule_value it.code.number it.url))) [
      | true ↦ tt
      | false ↦ plain_rule_members it.code.number it.url
    ]

more_rules : (rules : List Data) (rule : Option Data) → EachPlain 1 rules → OnePlain 1 rule → EachPlain 1 (and_rule rules rule)
unfolding OnePlain
more_rules rules None each new = each
more_rules rules (Some rule) each new =
    elim (is_some (place_in rules rule)) as (λ v. EachPlain 1 (if v then rules else rules ++ rule ∷ [])) [
      | true ↦ each
      | false ↦ each_push 1 rules rule each new
    ]

each_rule : (rules : List Data) (its : List GivenReport) → EachPlain 1 rules → EachPlain 1 (and_rules rules its)
unfolding and_rules
each_rule rules [] each = each
each_rule rules (it ∷ its) each = each_rule (and_rule rules (rule_of it.diagnostic)) its (more_rules rules (rule_of it.diagnostic) each (one_rule it.diagnostic))

all_rules : (its : List GivenReport) → EachPlain 1 (rules_of its)
unfolding EachPlain
all_rules its = each_rule [] its tt

-- ---- results

plain_region : (files : List NamedText) (file : ℕ) (it : Label) → IsPlain 2 (region_place files file it)
unfolding region_place reference_value region_value
plain_region files file it = record { whole = refl; shallow = omega arith }

plain_said_within : (it : Option (List ℕ)) → OnePlain 2 (option_map message_value it)
unfolding OnePlain message_value
plain_said_within None = tt
plain_said_within (Some text) = record { whole = refl; shallow = omega arith }

plain_label : (files : List NamedText) (file : ℕ) (it : Label) → IsPlain 3 (label_location files file it)
unfolding label_location
plain_label files file it =
    plain_object 2 _ (plain_put_some 2 (codes "message") (option_map message_value it.text) (put (codes "physicalLocation") (region_place files file it) no_members)
    (plain_said_within it.text) (plain_put 2 (codes "physicalLocation") (region_place files file it) no_members (plain_region files file it) (record { whole = refl; shallow = omega arith })))

plain_given : (row : ℕ) (it : GivenPlace) → IsPlain 1 (given_region row it)
unfolding given_region
plain_given row it =
    let first = put (codes "startLine") (whole_number row) no_members in
    let begun = put_some (codes "startColumn") (option_map whole_number (counted it.column)) first in
    let ended = put_some (codes "endLine") (option_map whole_number (counted it.end_line)) begun in
    let plain_first : ArePlain 0 first = record { whole = refl; shallow = omega arith } in
    plain_object 0 _ (plain_put_some 0 (codes "endColumn") (option_map whole_number (counted it.end_column)) ended (plain_number 0 (counted it.end_column))
    (plain_put_some 0 (codes "endLine") (option_map whole_number (counted it.end_line)) begun (plain_number 0 (counted it.end_line))
    (plain_put_some 0 (codes "startColumn") (option_map whole_number (counted it.column)) first (plain_number 0 (counted it.column)) plain_first)))

plain_from : (row : Option ℕ) (it : GivenPlace) → OnePlain 1 (option_map (λ row. given_region row it) row)
unfolding OnePlain
plain_from None it = tt
plain_from (Some row) it = plain_given row it

plain_place : (it : Option GivenPlace) → OnePlain 1 (region_given it)
unfolding OnePlain
plain_place None = tt
plain_place (Some it) = plain_from (counted it.line) it

plain_bare : (files : List NamedText) (file : ℕ) (place : Option GivenPlace) → IsPlain 3 (bare_location files file place)
unfolding bare_location reference_value
plain_bare files file place =
    let named = put (codes "artifactLocation") (reference_value files file) no_members in
    let placed = put_some (codes "region") (region_given place) named in
    let plain_named : ArePlain 1 named = record { whole = refl; shallow = omega arith } in
    let physical : IsPlain 2 (object placed) = plain_object 1 placed (plain_put_some 1 (codes "region") (region_given place) named (plain_place place) plain_named) in
    plain_object 2 (put (codes "physicalLocation") (object placed) no_members)
    (plain_put 2 (codes "physicalLocation") (object placed) no_members physical (record { whole = refl; shallow = omega arith }))

plain_change : (it : ChangeParts) → IsPlain 2 (change_value it)
unfolding change_value rows_region message_value
plain_change it = record { whole = refl; shallow = omega arith }

plain_fix : (files : List NamedText) (file : ℕ) (changes : List ChangeParts) → IsPlain 6 (fix_value files file changes)
unfolding fix_value reference_value
plain_fix files file changes =
    let all = plain_array 2 (map change_value changes) (each_map 2 change_value plain_change changes) in
    record { whole = rw all.whole refl; shallow = omega (arith, all.shallow) }

plain_said : (rules : List Data) (it : OxcParts) → ArePlain 7 (said_members rules it)
unfolding said_members message_value
plain_said rules it =
    let leveled = put (codes "level") (string (level_text it.severity)) no_members in
    let told = put (codes "message") (message_value it.message) leveled in
    let ruled = put_some (codes "ruleId") (text_value it.code.number) told in
    let plain_message : IsPlain 7 (message_value it.message) = record { whole = refl; shallow = omega arith } in
    let plain_level : ArePlain 7 leveled = record { whole = refl; shallow = omega arith } in
    plain_put_some 7 (codes "ruleIndex") (option_map whole_number (rule_place rules it)) ruled (plain_number 7 (rule_place rules it))
    (plain_put_some 7 (codes "ruleId") (text_value it.code.number) told (plain_text 7 it.code.number)
    (plain_put 7 (codes "message") (message_value it.message) leveled plain_message plain_level))

-- what is plain at fewer levels
deeper : (few many : ℕ) (d : Data) → few ≤ many → IsPlain few d → IsPlain many d
deeper few many d upto plain = record { whole = plain.whole; shallow = omega (arith, upto, plain.shallow) }

some_deeper : (few many : ℕ) (o : Option Data) → few ≤ many → OnePlain few o → OnePlain many o
unfolding OnePlain
some_deeper few many None upto plain = tt
some_deeper few many (Some d) upto plain = deeper few many d upto plain

plain_places : (files : List NamedText) (place : Option GivenPlace) (it : GivenReport) (said : Members) → ArePlain 7 said
    → ArePlain 7 (place_members files it.file (bare_location files it.file place) (placed_labels files it) said)
unfolding place_members
plain_places files place it said plain =
    let bare = bare_location files it.file place in
    let labels = placed_labels files it in
    let places = map (label_location files it.file) labels in
    let each : EachPlain 3 places = each_map 3 (label_location files it.file) (plain_label files it.file) labels in
    let head = unwrap_or (slice_get places (head_place labels)) bare in
    let others = some_array (remove places (head_place labels)) in
    let plain_head : IsPlain 3 head = one_of 3 places (head_place labels) bare each (plain_bare files it.file place) in
    let plain_one : IsPlain 7 (array (item head no_items)) = record { whole = rw plain_head.whole refl; shallow = omega (arith, plain_head.shallow) } in
    plain_put_some 7 (codes "relatedLocations") others (put (codes "locations") (array (item head no_items)) said)
    (some_deeper 4 7 others (omega arith) (plain_some_array 3 (remove places (head_place labels)) (others_of 3 places (head_place labels) each)))
    (plain_put 7 (codes "locations") (array (item head no_items)) said plain_one plain)

plain_result : (files : List NamedText) (rules : List Data) (place : Option GivenPlace) (fixes : List (List ChangeParts)) (it : GivenReport)
    → IsPlain 8 (placed_value files rules place fixes it)
unfolding placed_value
plain_result files rules place fixes it =
    let said = said_members rules it.diagnostic in
    let located = place_members files it.file (bare_location files it.file place) (placed_labels files it) said in
    let edits = map (fix_value files it.file) fixes in
    plain_object 7 (put_some (codes "fixes") (some_array edits) located)
    (plain_put_some 7 (codes "fixes") (some_array edits) located
    (plain_some_array 6 edits (each_map 6 (fix_value files it.file) (plain_fix files it.file) fixes))
    (plain_places files place it said (plain_said rules it.diagnostic)))

-- ---- the log

plain_artifact : (it : NamedText) → IsPlain 2 (artifact_value it)
unfolding artifact_value
plain_artifact it = record { whole = refl; shallow = omega arith }

plain_unread : (it : NamedText) → IsPlain 2 (unread_value it)
unfolding unread_value
plain_unread it = record { whole = refl; shallow = omega arith }

plain_listed : (unread : Bool) (it : NamedText) → IsPlain 2 (file_value unread it)
plain_listed true it = plain_unread it
plain_listed false it = plain_artifact it

plain_run : (tool : List ℕ) (files : List NamedText) (unread : List Bool) (its : List GivenReport) (places : List (Option GivenPlace)) (fixes : List (List (List ChangeParts)))
    → IsPlain 11 (run_with tool files unread its places fixes)
unfolding run_with run_of breaks_value tool_value
plain_run tool files unread its places fixes =
    let value = placed_value files (rules_of its) in
    let artifacts = plain_array 2 (map_beside file_value false unread files) (each_beside 2 file_value plain_listed false unread files) in
    let results = plain_array 8 (map_between value None [] places fixes its) (each_between 8 value (plain_result files (rules_of its)) None [] places fixes its) in
    let rules = plain_array 1 (rules_of its) (all_rules its) in
    record {
      whole = rw (artifacts.whole, results.whole, rules.whole) refl;
      shallow = omega (arith, artifacts.shallow, results.shallow, rules.shallow);
    }

plain_log : (tool : List ℕ) (files : List NamedText) (unread : List Bool) (its : List GivenReport) (places : List (Option GivenPlace)) (fixes : List (List (List ChangeParts)))
    → IsPlain 13 (log_with tool files unread its places fixes)
unfolding log_of
plain_log tool files unread its places fixes =
    let run = plain_run tool files unread its places fixes in
    record { whole = rw run.whole refl; shallow = omega (arith, run.shallow) }

pub no_float : (tool : List ℕ) (files : List NamedText) (unread : List Bool) (its : List GivenReport) (places : List (Option GivenPlace)) (fixes : List (List (List ChangeParts)))
    → has_float (log_with tool files unread its places fixes) ≡ false
no_float tool files unread its places fixes = (plain_log tool files unread its places fixes).whole

pub shallow : (tool : List ℕ) (files : List NamedText) (unread : List Bool) (its : List GivenReport) (places : List (Option GivenPlace)) (fixes : List (List (List ChangeParts)))
    → depth (log_with tool files unread its places fixes) ≤ 127
shallow tool files unread its places fixes = omega (arith, (plain_log tool files unread its places fixes).shallow)

-- The rules that were written are the rules that are meant.
use Rattle.std.proofs.Common.{◌≡◌, ℕ, ◌+◌, ◌^◌, ◌<◌, ◌≤◌, Bool, true, false, cond, if◌then◌else◌, ◌&&◌, IfSome, List, [], ◌∷◌, ◌++◌, length, length-append, map, Option, Some, None, is_some, is_none, option_map, option_and_then, unwrap_or, refl, sym, ap, ap₂, subst, ◌∙◌, arith}
use Rattle.std.specs.List.{All}
use Rattle.std.specs.Str.{bytes_eq}
use Rattle.std.proofs.lemmas.Bool.{and_from, and_parts}
use Rattle.std.proofs.lemmas.List.{map-append}
use Rattle.std.proofs.lemmas.List.Elements.{All-cons, All-head, All-nil, All-tail}
use Rattle.std.proofs.lemmas.Slice.Eq.{bytes_eq-Decides}
use Rattle.json.specs.Json.{Json, document}
use Rattle.json.proofs.Printed.Trees.{document-print}
use Rattle.serde_json.specs.Data.{Data}
use Rattle.serde_json.specs.Written.{compact_text, outline}
use Rattle.serde_json.proofs.Texts.{print-outline}
use Rattle.oxc_protocol.specs.Parts.{OxcParts}
use Rattle.sarif_log.specs.Log.{Rule, rule_of}
use Rattle.render_files.specs.Given.{GivenReport}
use Rattle.sarif_writing.specs.Rules as written
use Rattle.sarif_writing.specs.Rules.{rule_value}
use Rattle.finding_laws.specs.Logs.Meant.{is_rule, is_same_text, rule_from, rule_meant, rule_said, rules_meant, with_rule, with_rules}
use Rattle.finding_laws.proofs.LogLemmas.Part.{rule_back, rule_fits}

-- a rule as it is written
abbrev pub rule_data : Rule → Data
rule_data it = rule_value it.id it.help_uri

-- ---- two rules are one exactly where their texts are

text_read : (it : Rule) → document (compact_text (rule_data it)) ≡ Some (outline (rule_data it))
text_read it =
    let fits = rule_fits it.id it.help_uri in
    ap document (sym (print-outline (rule_data it))) ∙ document-print (outline (rule_data it)) fits.numbers (omega (arith, fits.shallow))

abbrev read_or : Option Json → Rule
read_or it = rule_of it

one_rule : (it other : Rule) → compact_text (rule_data it) ≡ compact_text (rule_data other) → rule_said it.id it.help_uri ≡ rule_said other.id other.help_uri
one_rule it other same =
    let read : Some (outline (rule_data it)) ≡ Some (outline (rule_data other)) = sym (text_read it) ∙ ap document same ∙ text_read other in
    sym (rule_back it.id it.help_uri) ∙ ap read_or read ∙ rule_back other.id other.help_uri

pub bytes_same : (xs : List ℕ) → bytes_eq xs xs ≡ true
bytes_same xs = (bytes_eq-Decides xs xs).1 refl

pub text_same : (it : Option (List ℕ)) → is_same_text it it ≡ true
text_same None = refl
text_same (Some text) = bytes_same text

pub same_text : (it other : Option (List ℕ)) → is_same_text it other ≡ true → it ≡ other
same_text None None same = refl
same_text None (Some b) same = cc
same_text (Some a) None same = cc
same_text (Some a) (Some b) same = ap Some ((bytes_eq-Decides a b).0 same)

alike : (a b : Bool) → (a ≡ true → b ≡ true) → (b ≡ true → a ≡ true) → a ≡ b
alike true b to from = sym (to refl)
alike false true to from = from refl
alike false false to from = refl

abbrev id_of : Rule → List ℕ
id_of it = unwrap_or it.id []

same_data : (it other : Rule) → is_rule it other ≡ true → rule_data it ≡ rule_data other
unfolding rule_value
same_data it other same =
    let parts = and_parts (bytes_eq (id_of it) (id_of other)) (is_same_text it.help_uri other.help_uri) same in
    let ids : id_of it ≡ id_of other = (bytes_eq-Decides (id_of it) (id_of other)).0 parts.0 in
    ap₂ (λ id url. rule_value (Some id) url) ids (same_text it.help_uri other.help_uri parts.1)

same_rule : (it other : Rule) → compact_text (rule_data it) ≡ compact_text (rule_data other) → is_rule it other ≡ true
same_rule it other same =
    let said = one_rule it other same in
    let ids : id_of it ≡ id_of other = ap id_of said in
    let urls : it.help_uri ≡ other.help_uri = ap (λ rule. rule.help_uri) said in
    and_from (bytes_eq (id_of it) (id_of other)) (is_same_text it.help_uri other.help_uri) (subst (λ id. bytes_eq (id_of it) id ≡ true) ids (bytes_same (id_of it)))
    (subst (λ url. is_same_text it.help_uri url ≡ true) urls (text_same it.help_uri))

texts_tell : (it other : Rule) → bytes_eq (compact_text (rule_data it)) (compact_text (rule_data other)) ≡ is_rule it other
texts_tell it other =
    alike (bytes_eq (compact_text (rule_data it)) (compact_text (rule_data other))) (is_rule it other) (λ same. same_rule it other ((bytes_eq-Decides (compact_text (rule_data it)) (compact_text (rule_data other))).0 same))
    (λ same. subst (λ d. bytes_eq (compact_text (rule_data it)) (compact_text d) ≡ true) (same_data it other same) (bytes_same (compact_text (rule_data it))))

-- ---- places

place_same : (at : ℕ) (rules : List Rule) (rule : Rule) → written.place_from at (map rule_data rules) (compact_text (rule_data rule)) ≡ rule_from at rules rule
unfolding written.place_from rule_from
place_same at [] rule = refl
place_same at (it ∷ rest) rule =
    ap₂ (λ same other. if same then Some at else other) (texts_tell it rule) (place_same (at + 1) rest rule)

data_meant : (said : OxcParts) → written.rule_of said ≡ option_map rule_data (rule_meant said)
unfolding written.rule_of rule_meant rule_value
data_meant said =
    elim (is_none said.code.number && is_none said.url) as (λ b. cond b None (Some (rule_value said.code.number said.url)) ≡ option_map rule_data (cond b None (Some (rule_said said.code.number said.url))))
    [ true ↦ refl | false ↦ refl ]

pushed_data : (rules : List Rule) (rule : Rule) (b : Bool) → cond b (map rule_data rules) (map rule_data rules ++ rule_data rule ∷ []) ≡ map rule_data (cond b rules (rules ++ rule ∷ []))
pushed_data rules rule true = refl
pushed_data rules rule false = sym (map-append rule_data rules (rule ∷ []))

one_more : (rules : List Rule) (rule : Option Rule) → written.and_rule (map rule_data rules) (option_map rule_data rule) ≡ map rule_data (with_rule rules rule)
one_more rules None = refl
one_more rules (Some rule) =
    ap (λ place. if is_some place then map rule_data rules else map rule_data rules ++ rule_data rule ∷ []) (place_same 0 rules rule)
    ∙ pushed_data rules rule (is_some (rule_from 0 rules rule))

more_rules : (rules : List Rule) (reports : List GivenReport) → written.and_rules (map rule_data rules) reports ≡ map rule_data (with_rules rules reports)
unfolding written.and_rules with_rules
more_rules rules [] = refl
more_rules rules (it ∷ rest) =
    ap (λ its. written.and_rules its rest) (ap (written.and_rule (map rule_data rules)) (data_meant it.diagnostic) ∙ one_more rules (rule_meant it.diagnostic))
    ∙ more_rules (with_rule rules (rule_meant it.diagnostic)) rest

-- the rules of reports
pub rules_same : (reports : List GivenReport) → written.rules_of reports ≡ map rule_data (rules_meant reports)
rules_same reports = more_rules [] reports

placed_same : (rules : List Rule) (rule : Option Rule) → option_and_then (written.place_in (map rule_data rules)) (option_map rule_data rule) ≡ option_and_then (rule_from 0 rules) rule
placed_same rules None = refl
placed_same rules (Some rule) = place_same 0 rules rule

-- the place of a report's rule
pub index_same : (rules : List Rule) (said : OxcParts) → option_and_then (written.place_in (map rule_data rules)) (written.rule_of said) ≡ option_and_then (rule_from 0 rules) (rule_meant said)
index_same rules said = ap (option_and_then (written.place_in (map rule_data rules))) (data_meant said) ∙ placed_same rules (rule_meant said)

-- ---- and they are few

later : (at : ℕ) (it : Rule) (rest : List Rule) (place : Option ℕ) → IfSome place (λ n. n < (at + 1) + length rest) → IfSome place (λ n. n < at + length (it ∷ rest))
later at it rest None within = tt
later at it rest (Some n) within = omega (arith, within)

place_within : (at : ℕ) (rules : List Rule) (rule : Rule) → IfSome (rule_from at rules rule) (λ n. n < at + length rules)
unfolding rule_from
place_within at [] rule = tt
place_within at (it ∷ rest) rule =
    elim (is_rule it rule) as (λ b. IfSome (cond b (Some at) (rule_from (at + 1) rest rule)) (λ n. n < at + length (it ∷ rest)))
    [ true ↦ omega arith | false ↦ later at it rest (rule_from (at + 1) rest rule) (place_within (at + 1) rest rule) ]

few : (rules : List Rule) (rule : Rule) (b : Bool) → length (cond b rules (rules ++ rule ∷ [])) ≤ length rules + 1
few rules rule true = omega arith
few rules rule false = omega (arith, length-append rules (rule ∷ []))

one_few : (rules : List Rule) (rule : Option Rule) → length (with_rule rules rule) ≤ length rules + 1
one_few rules None = omega arith
one_few rules (Some rule) = few rules rule (is_some (rule_from 0 rules rule))

rules_few : (rules : List Rule) (reports : List GivenReport) → length (with_rules rules reports) ≤ length rules + length reports
unfolding with_rules
rules_few rules [] = omega arith
rules_few rules (it ∷ rest) = omega (arith, one_few rules (rule_meant it.diagnostic), rules_few (with_rule rules (rule_meant it.diagnostic)) rest)

below : (place : Option ℕ) (count most : ℕ) → IfSome place (λ n. n < count) → count ≤ most → IfSome place (λ n. n < most)
below None count most within fewer = tt
below (Some n) count most within fewer = omega (arith, within, fewer)

place_small : (rules : List Rule) (rule : Option Rule) (most : ℕ) → length rules ≤ most → IfSome (option_and_then (rule_from 0 rules) rule) (λ n. n < most)
place_small rules None most fewer = tt
place_small rules (Some rule) most fewer = below (rule_from 0 rules rule) (0 + length rules) most (place_within 0 rules rule) (omega (arith, fewer))

pub index_small : (reports : List GivenReport) (said : OxcParts) → length reports < 2 ^ 64 → IfSome (option_and_then (rule_from 0 (rules_meant reports)) (rule_meant said)) (λ n. n < 2 ^ 64)
index_small reports said fewer = place_small (rules_meant reports) (rule_meant said) (2 ^ 64) (omega (arith, rules_few [] reports, fewer))

-- ---- and are read as they are meant

abbrev pub IsSaid : Rule → Type 0
IsSaid it = rule_said it.id it.help_uri ≡ it

meant_said : (said : OxcParts) → IfSome (rule_meant said) IsSaid
unfolding rule_meant
meant_said said =
    elim (is_none said.code.number && is_none said.url) as (λ b. IfSome (cond b None (Some (rule_said said.code.number said.url))) IsSaid)
    [ true ↦ tt | false ↦ refl ]

said_more : (its : List Rule) (rule : Rule) → All IsSaid its → IsSaid rule → All IsSaid (its ++ rule ∷ [])
said_more [] rule every said = All-cons IsSaid rule [] said (All-nil IsSaid)
said_more (it ∷ rest) rule every said = All-cons IsSaid it (rest ++ rule ∷ []) (All-head IsSaid it rest every) (said_more rest rule (All-tail IsSaid it rest every) said)

said_pushed : (rules : List Rule) (rule : Rule) (b : Bool) → All IsSaid rules → IsSaid rule → All IsSaid (cond b rules (rules ++ rule ∷ []))
said_pushed rules rule true all said = all
said_pushed rules rule false all said = said_more rules rule all said

one_said : (rules : List Rule) (rule : Option Rule) → All IsSaid rules → IfSome rule IsSaid → All IsSaid (with_rule rules rule)
one_said rules None all said = all
one_said rules (Some rule) all said = said_pushed rules rule (is_some (rule_from 0 rules rule)) all said

pub all_said : (rules : List Rule) (reports : List GivenReport) → All IsSaid rules → All IsSaid (with_rules rules reports)
unfolding with_rules
all_said rules [] all = all
all_said rules (it ∷ rest) all = all_said (with_rule rules (rule_meant it.diagnostic)) rest (one_said rules (rule_meant it.diagnostic) all (meant_said it.diagnostic))

each_back : (its : List Rule) → All IsSaid its → map (λ it. rule_of (Some (outline it))) (map rule_data its) ≡ its
each_back [] all = refl
each_back (it ∷ rest) all = ap₂ (λ first others. first ∷ others) (rule_back it.id it.help_uri ∙ All-head IsSaid it rest all) (each_back rest (All-tail IsSaid it rest all))

pub rules_back : (reports : List GivenReport) → map (λ it. rule_of (Some (outline it))) (map rule_data (rules_meant reports)) ≡ rules_meant reports
rules_back reports = each_back (rules_meant reports) (all_said [] reports (All-nil IsSaid))

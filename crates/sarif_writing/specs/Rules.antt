-- The rules of reports: what a report's number and URL are in a log, each pair of them once.
use Rattle.std.specs.Prelude.{◌≡◌, ℕ, ◌+◌, ◌&&◌, List, [], ◌∷◌, ◌++◌, codes, if◌then◌else◌, Option, Some, None, is_none, is_some, unwrap_or}
use Rattle.std.specs.Str.{bytes_eq}
use Rattle.std.specs.BTreeMap.{BTreeMap, get_by_text}
use Rattle.std.specs.declared.alloc.Global.{Global}
use Rattle.std.specs.Prelude.{String}
use Rattle.serde_json.specs.Data.{Data, string, object, no_members, put}
use Rattle.serde_json.specs.Written.{compact_text}
use Rattle.documents.specs.Written.{put_some, text_value}
use Rattle.oxc_protocol.specs.Parts.{OxcParts}
use Rattle.render_files.specs.Given.{GivenReport}

-- a rule: its id is the number, or empty where there is none
unfoldable pub rule_value : Option (List ℕ) → Option (List ℕ) → Data
rule_value number url =
    object (put_some (codes "helpUri") (text_value url) (put (codes "id") (string (unwrap_or number [])) no_members))

-- the rule of a report that has a number or a URL
unfoldable pub rule_of : OxcParts → Option Data
rule_of it = if is_none it.code.number && is_none it.url then None else Some (rule_value it.code.number it.url)

-- the place, from `at` on, of the rule that has this text
unfoldable pub place_from : ℕ → List Data → List ℕ → Option ℕ
place_from at [] text = None
place_from at (rule ∷ rules) text = if bytes_eq (compact_text rule) text then Some at else place_from (at + 1) rules text

-- the place of a rule among rules, from 0: two rules are one where their texts are
abbrev pub place_in : List Data → Data → Option ℕ
place_in rules rule = place_from 0 rules (compact_text rule)

-- these rules and one more, unless it is there
abbrev pub and_rule : List Data → Option Data → List Data
and_rule rules None = rules
and_rule rules (Some rule) = if is_some (place_in rules rule) then rules else rules ++ rule ∷ []

unfoldable pub and_rules : List Data → List GivenReport → List Data
and_rules rules [] = rules
and_rules rules (it ∷ rest) = and_rules (and_rule rules (rule_of it.diagnostic)) rest

-- the rules of reports, each once, in the order in which they come
abbrev pub rules_of : List GivenReport → List Data
rules_of reports = and_rules [] reports

-- the map tells of each text the place of the rule that has it
abbrev pub ArePlaces : List Data → BTreeMap (String Global) ℕ → Type 0
ArePlaces rules places = (text : List ℕ) → get_by_text places text ≡ place_from 0 rules text

-- The parts of a finding that are read of its element.
use Rattle.std.proofs.Common.{◌≡◌, ◌∙◌, ℕ, ◌+◌, ◌-◌, ◌^◌, ◌<◌, ◌≤◌, ◌==◌, ◌&&◌, not, if◌then◌else◌, cond, nat_eq, nat_le, nat_lt, map, ◌||◌, List, [], ◌∷◌, length, take, slice_get, Bool, true, false, Option, Some, None, option_and_then, unwrap_or, ap, ap₂, arith, codes, decimal, refl, inl, inr, ◌⊎◌}
use Rattle.std.specs.Borrow.{Bor}
use Rattle.std.specs.Option.{option_or}
use Rattle.std.specs.List.{list_all, list_any, starts_with}
use Rattle.std.specs.Char.{is_ascii_digit}
use Rattle.std.proofs.lemmas.Bool.{and_left, and_parts, and_right, cases_lt, le-ltb, leb-true, lt-ltb, ne_eqb}
use Rattle.std.proofs.lemmas.Fmt.{decimal_nonempty}
use Rattle.numerals.specs.Numerals.{number_in}
use Rattle.numerals.proofs.NumeralLemmas.{number_in_decimal}
use Rattle.json.specs.Find.{get}
use Rattle.json.specs.Json.{Json, object, string, member}
use Rattle.oxc_protocol.specs.declared.protocol.Severity.{Severity}
use Rattle.oxc_protocol.specs.declared.protocol.Severity.TheVariants.{Error, Warning, Advice}
use Rattle.json_spots.specs.declared.step.Path.{Path}
use Rattle.json_spots.specs.declared.step.Step.{Step}
use Rattle.json_spots.specs.declared.step.Step.TheVariants.{Key, Nth, Each, Member}
use Rattle.json_spots.specs.Spot.{Crumb, Reached, Spot}
use Rattle.json_spots.specs.Said.{inward, lead, name_said, outward, Said, words, said_at, said_from, said_of, says, word_of}
use Rattle.json_forms.specs.declared.form.Row.{Row}
use Rattle.json_forms.specs.declared.place.Figures.{Figures}
use Rattle.json_forms.specs.declared.said.Whole.TheVariants.{Number, Below, Bad}
use Rattle.json_forms.specs.Finding.{finding_of}
use Rattle.json_forms.specs.declared.form.Ask.TheVariants.{Begins, BeginsOther}
use Rattle.json_forms.specs.declared.form.Guard.{Guard}
use Rattle.json_forms.specs.Guard.{any_fits, asks, holds, word_fits}
use Rattle.json_forms.specs.Place.{above, above_number, either, figures_at, file_with, first_of, place_at, posn_at, span_from, span_of, with_posn}
use Rattle.json_forms.specs.Rows.{is_said, part}
use Rattle.json_forms.specs.Said.{bounded, is_below, number_at, number_of, number_said, text_at, text_of, whole}
use Rattle.json_forms.specs.Severity.{known, known_words, own, severity_said}
use Rattle.ci_formats.specs.Finding.{FindingParts}
use Rattle.ci_formats.specs.Checkstyle.{severity_word}
use Rattle.ci_formats.specs.Files.{or_zero}
use Rattle.ci_formats.specs.Xml.{held}
use Rattle.finding_laws.specs.Checkstyle.Read.{AreWay, column_beside, from_one, IsElementOf, IsKeyAlone, IsWay, ReadsMessage, ReadsParts, some_text, source_said, begins_any, ReadsConditions}
use Rattle.finding_laws.specs.Checkstyle.Value as value
use Rattle.finding_laws.specs.Checkstyle.Value.{error_value, file_value, some_under, source_member}
use Rattle.finding_laws.proofs.CheckstyleLemmas.Value.{decimal_figures, is_figure}

-- ---- what is said at a path

some_again : (found : Option Json) → option_and_then (lead []) found ≡ found
some_again None = refl
some_again (Some value) = refl

lead_key : (key : List ℕ) (steps : List Step) (value : Json) → IsKeyAlone key steps → lead steps value ≡ get key value
unfolding inward
lead_key key [] value is = absurd is
lead_key key (Key own ∷ []) value is = some_again (get own.now value) ∙ ap (λ k. get k value) is
lead_key key (Key own ∷ (step ∷ steps)) value is = absurd is
lead_key key (Nth at ∷ steps) value is = absurd is
lead_key key (Each ∷ steps) value is = absurd is
lead_key key (Member ∷ steps) value is = absurd is

said_in : (key : List ℕ) (path : Path) (crumb : Crumb) → path.is_name ≡ false → IsKeyAlone key path.steps.items → said_from path (Some crumb) ≡ said_of (get key crumb.value)
said_in key path crumb no_name goes =
    ap (λ b. if b then name_said crumb.by else said_of (lead path.steps.items crumb.value)) no_name ∙ ap said_of (lead_key key path.steps.items crumb.value goes)

said_here : (key : List ℕ) (path : Path) (spot : Spot) → IsWay 0 key path → said_at path spot ≡ said_of (get key spot.here.value)
unfolding said_at outward
said_here key path spot way = ap (λ out. said_from path (outward out spot)) way.goes_out ∙ said_in key path spot.here way.no_name way.goes_in

out_two : (spot : Spot) (a b : Crumb) (rest : List Crumb) → spot.outer ≡ a ∷ b ∷ rest → outward 2 spot ≡ Some b
unfolding outward
out_two spot a b rest is = ap (λ outer. slice_get (spot.here ∷ outer) 2) is

pub said_two : (key : List ℕ) (path : Path) (spot : Spot) (a b : Crumb) (rest : List Crumb) → spot.outer ≡ a ∷ b ∷ rest → IsWay 2 key path → said_at path spot ≡ said_of (get key b.value)
unfolding said_at
said_two key path spot a b rest is way =
    ap (λ out. said_from path (outward out spot)) way.goes_out ∙ (ap (said_from path) (out_two spot a b rest is) ∙ said_in key path b way.no_name way.goes_in)

-- ---- the text and the number of what is said

abbrev text_said : Said → Option (List ℕ)
text_said said = if says said then text_of said else None

abbrev number_there : Said → Option ℕ
number_there said = if says said then number_of (number_said said) else None

text_picked : (path : Path) (spot : Spot) (picked : Bool) → option_and_then (λ it. text_of (said_at it spot)) (cond picked (Some path) None) ≡ (if picked then text_of (said_at path spot) else None)
text_picked path spot true = refl
text_picked path spot false = refl

number_picked : (path : Path) (spot : Spot) (picked : Bool) → option_and_then (λ it. number_of (number_said (said_at it spot))) (cond picked (Some path) None) ≡ (if picked then number_of (number_said (said_at path spot)) else None)
number_picked path spot true = refl
number_picked path spot false = refl

text_way : (out : ℕ) (key : List ℕ) (paths : List Path) (spot : Spot) (said : Said) → AreWay out key paths → ((path : Path) → IsWay out key path → said_at path spot ≡ said) → text_at paths spot ≡ text_said said
unfolding text_at
text_way out key [] spot said way each = absurd way
text_way out key (path ∷ []) spot said way each = text_picked path spot (says (said_at path spot)) ∙ ap text_said (each path way)
text_way out key (path ∷ (other ∷ paths)) spot said way each = absurd way

number_way : (out : ℕ) (key : List ℕ) (paths : List Path) (spot : Spot) (said : Said) → AreWay out key paths → ((path : Path) → IsWay out key path → said_at path spot ≡ said) → number_at paths spot ≡ number_there said
unfolding number_at
number_way out key [] spot said way each = absurd way
number_way out key (path ∷ []) spot said way each = number_picked path spot (says (said_at path spot)) ∙ ap number_there (each path way)
number_way out key (path ∷ (other ∷ paths)) spot said way each = absurd way

turned : (text : List ℕ) (none : Bool) → (if not none then Some text else None) ≡ (if none then None else Some text)
turned text true = refl
turned text false = refl

words_text : (text : List ℕ) → text_said (words text) ≡ some_text text
words_text text = turned text (length text == 0)

figures_below : (text : List ℕ) → list_all is_figure text ≡ true → is_below text ≡ false
figures_below [] all = refl
figures_below (x ∷ xs) all =
    let parts = and_parts (is_figure x) (list_all is_figure xs) all in
    let mine = and_parts (nat_le 0x30 x) (nat_le x 0x39) parts.0 in
    let other : (x == 0x2D) ≡ false = ne_eqb x 0x2D (λ e. omega (arith, e, leb-true 0x30 x mine.0)) in
    and_left (nat_lt 1 (length (x ∷ xs)) && (x == 0x2D)) (list_all is_ascii_digit xs) (and_right (nat_lt 1 (length (x ∷ xs))) (x == 0x2D) other)

pub whole_decimal : (n : ℕ) → n < 2 ^ 32 → whole (decimal n) ≡ Number n
whole_decimal n small =
    ap (λ b. if b then Below else bounded (number_in (decimal n))) (figures_below (decimal n) (decimal_figures n))
    ∙ (ap bounded (number_in_decimal n (omega (arith, small))) ∙ ap (λ b. if b then Number n else Bad) (lt-ltb n 0x100000000 (omega (arith, small))))

decimal_there : (n : ℕ) → n < 2 ^ 32 → (length (decimal n) == 0) ≡ false
decimal_there n small = ne_eqb (length (decimal n)) 0 (λ e. omega (arith, e, decimal_nonempty n (omega (arith, small))))

number_decimal : (n : ℕ) → n < 2 ^ 32 → number_there (words (decimal n)) ≡ Some n
number_decimal n small =
    ap (λ b. if not b then number_of (number_said (words (decimal n))) else None) (decimal_there n small) ∙ ap number_of (whole_decimal n small)

-- ---- the members of an element

abbrev pub error_object : List ℕ → List ℕ → List ℕ → List ℕ → Option (List ℕ) → Json
error_object line column severity message code =
    object (member (codes "line") (string line) (member (codes "column") (string column) (member (codes "severity") (string severity) (member (codes "message") (string message) (source_member code)))))

line_in : (l c s m : List ℕ) (code : Option (List ℕ)) → get (codes "line") (error_object l c s m code) ≡ Some (string l)
line_in l c s m None = refl
line_in l c s m (Some code) = refl

column_in : (l c s m : List ℕ) (code : Option (List ℕ)) → get (codes "column") (error_object l c s m code) ≡ Some (string c)
column_in l c s m None = refl
column_in l c s m (Some code) = refl

severity_in : (l c s m : List ℕ) (code : Option (List ℕ)) → get (codes "severity") (error_object l c s m code) ≡ Some (string s)
severity_in l c s m None = refl
severity_in l c s m (Some code) = refl

message_in : (l c s m : List ℕ) (code : Option (List ℕ)) → get (codes "message") (error_object l c s m code) ≡ Some (string m)
message_in l c s m None = refl
message_in l c s m (Some code) = refl

abbrev source_json : Option (List ℕ) → Option Json
source_json None = None
source_json (Some code) = Some (string (held code))

source_in : (l c s m : List ℕ) (code : Option (List ℕ)) → get (codes "source") (error_object l c s m code) ≡ source_json code
source_in l c s m None = refl
source_in l c s m (Some code) = refl

name_in : (name : List ℕ) (errors : List Json) → get (codes "name") (object (member (codes "name") (string (held name)) (some_under (codes "error") errors))) ≡ Some (string (held name))
name_in name [] = refl
name_in name (error ∷ errors) = refl

abbrev pub key_of : FindingParts → List ℕ → Option Json
key_of f key = get key (error_value f)

pub line_of : (f : FindingParts) → key_of f (codes "line") ≡ Some (string (decimal (or_zero f.start.row)))
unfolding error_value
line_of f = line_in (decimal (or_zero f.start.row)) (decimal (or_zero f.start.column)) (severity_word f.severity) (held f.message) f.code

pub column_of : (f : FindingParts) → key_of f (codes "column") ≡ Some (string (decimal (or_zero f.start.column)))
unfolding error_value
column_of f = column_in (decimal (or_zero f.start.row)) (decimal (or_zero f.start.column)) (severity_word f.severity) (held f.message) f.code

severity_key_of : (f : FindingParts) → key_of f (codes "severity") ≡ Some (string (severity_word f.severity))
unfolding error_value
severity_key_of f = severity_in (decimal (or_zero f.start.row)) (decimal (or_zero f.start.column)) (severity_word f.severity) (held f.message) f.code

message_of : (f : FindingParts) → key_of f (codes "message") ≡ Some (string (held f.message))
unfolding error_value
message_of f = message_in (decimal (or_zero f.start.row)) (decimal (or_zero f.start.column)) (severity_word f.severity) (held f.message) f.code

source_of : (f : FindingParts) → key_of f (codes "source") ≡ source_json f.code
unfolding error_value
source_of f = source_in (decimal (or_zero f.start.row)) (decimal (or_zero f.start.column)) (severity_word f.severity) (held f.message) f.code

-- ---- the parts

module _ (findings : List FindingParts) (it : Reached) (f : FindingParts) (is : IsElementOf findings it f) where
  pub said_as : (key : List ℕ) (found : Option Json) (path : Path) → key_of f key ≡ found → IsWay 0 key path → said_at path it.spot ≡ said_of found
  said_as key found path has way = said_here key path it.spot way ∙ (ap (λ v. said_of (get key v)) is.here ∙ ap said_of has)

  text_as : (key : List ℕ) (text : List ℕ) (paths : List Path) → key_of f key ≡ Some (string text) → AreWay 0 key paths → text_at paths it.spot ≡ some_text text
  text_as key text paths has way = text_way 0 key paths it.spot (words text) way (λ path one. said_as key (Some (string text)) path has one) ∙ words_text text

  number_as : (key : List ℕ) (n : ℕ) (paths : List Path) → key_of f key ≡ Some (string (decimal n)) → n < 2 ^ 32 → AreWay 0 key paths → number_at paths it.spot ≡ Some n
  number_as key n paths has small way = number_way 0 key paths it.spot (words (decimal n)) way (λ path one. said_as key (Some (string (decimal n))) path has one) ∙ number_decimal n small

  pub file_name : get (codes "name") (file_value findings f.name) ≡ Some (string (held f.name))
  unfolding value.file_with
  file_name = name_in f.name _

  file_as : (paths : List Path) → AreWay 2 (codes "name") paths → text_at paths it.spot ≡ some_text (held f.name)
  file_as paths way =
      text_way 2 (codes "name") paths it.spot (words (held f.name)) way
      (λ path one. said_two (codes "name") path it.spot is.around is.file is.rest is.outer one ∙ (ap (λ v. said_of (get (codes "name") v)) is.in_file ∙ ap said_of file_name))
      ∙ words_text (held f.name)

code_said : (code : Option (List ℕ)) → text_said (said_of (source_json code)) ≡ option_and_then (λ own. some_text (held own)) code
code_said None = refl
code_said (Some code) = words_text (held code)

way_some : (out : ℕ) (key : List ℕ) (paths : List Path) → AreWay out key paths → (length paths == 0) ≡ false
way_some out key [] way = absurd way
way_some out key (path ∷ []) way = refl
way_some out key (path ∷ (other ∷ paths)) way = absurd way

either_first : (rows : List Row) (out : ℕ) (way key from_zero : List ℕ) → AreWay out way (part rows key) → either rows key from_zero ≡ part rows key
either_first rows out way key from_zero are = ap (λ b. if b then part rows from_zero else part rows key) (way_some out way (part rows key) are)

first_is_one : (rows : List Row) (out : ℕ) (way key from_zero : List ℕ) → AreWay out way (part rows key) → first_of rows key from_zero ≡ 1
first_is_one rows out way key from_zero are = ap (λ b. if b && not (length (part rows from_zero) == 0) then 0 else 1) (way_some out way (part rows key) are)

above_one : (n : ℕ) → above_number 1 n ≡ from_one n
above_one n = go (cases_lt n 1)
  where
    go : (n < 1) ⊎ (1 ≤ n) → above_number 1 n ≡ from_one n
    go (inl low) = rw (lt-ltb n 1 low) refl
    go (inr high) = let same : n - 1 + 1 ≡ n = omega (arith, high) in rw (le-ltb n 1 high) (ap Some same)

span_line : (figures : Figures) (line : Option ℕ) → (span_from figures line).line ≡ line
span_line figures None = refl
span_line figures (Some line) = refl

span_column : (figures : Figures) (line : Option ℕ) → (span_from figures line).column ≡ column_beside line (above figures.first_column false figures.column)
span_column figures None = refl
span_column figures (Some line) = refl

above_known : (first : ℕ) (number : Option ℕ) (n : ℕ) → first ≡ 1 → number ≡ Some n → above first false number ≡ from_one n
above_known first number n is has = ap₂ (λ one known. above one false known) is has ∙ above_one n

word_known : (severity : Severity) → known (severity_word severity) ≡ severity
unfolding known_words
word_known Error = refl
word_known Warning = refl
word_known Advice = refl

word_text : (severity : Severity) → some_text (severity_word severity) ≡ Some (severity_word severity)
word_text Error = refl
word_text Warning = refl
word_text Advice = refl

severity_as : (rows : List Row) (severity : Severity) → is_said rows (codes "as") (codes "letter") ≡ false → ((word : List ℕ) → own rows word ≡ None) → severity_said rows (Some (severity_word severity)) ≡ severity
severity_as rows severity no_letter no_levels =
    let word : List ℕ = severity_word severity in
    ap (λ b. unwrap_or (own rows (if b then take 1 word else word)) (known (if b then take 1 word else word))) no_letter
    ∙ (ap (λ o. unwrap_or o (known word)) (no_levels word) ∙ word_known severity)

no_posn_at : (rows : List Row) (spot : Spot) → part rows (codes "posn") ≡ [] → posn_at (part rows (codes "posn")) spot ≡ None
unfolding posn_at text_at
no_posn_at rows spot none = ap (λ paths. posn_at paths spot) none

pub reads_parts : (findings : List FindingParts) → ReadsParts findings
unfolding finding_of place_at span_of figures_at
reads_parts findings list it f message say is small =
    let rows : List Row = list.rows.items in
    let figures : Figures = figures_at rows it.spot in
    let line : figures.line ≡ Some (or_zero f.start.row) =
    ap (λ paths. number_at paths it.spot) (either_first rows 0 (codes "line") (codes "line") (codes "line0") say.line) ∙ number_as findings it f is (codes "line") (or_zero f.start.row) (part rows (codes "line")) (line_of f) small.row say.line in
    let column : figures.column ≡ Some (or_zero f.start.column) =
    ap (λ paths. number_at paths it.spot) (either_first rows 0 (codes "column") (codes "column") (codes "column0") say.column)
    ∙ number_as findings it f is (codes "column") (or_zero f.start.column) (part rows (codes "column")) (column_of f) small.column say.column in
    let above_line : above figures.first_line false figures.line ≡ from_one (or_zero f.start.row) = above_known figures.first_line figures.line (or_zero f.start.row) (first_is_one rows 0 (codes "line") (codes "line") (codes "line0") say.line) line in
    let above_column : above figures.first_column false figures.column ≡ from_one (or_zero f.start.column) =
    above_known figures.first_column figures.column (or_zero f.start.column) (first_is_one rows 0 (codes "column") (codes "column") (codes "column0") say.column) column in
    let posn = no_posn_at rows it.spot say.no_posn in
    record {
      file = ap (λ p. file_with p (text_at (part rows (codes "file")) it.spot)) posn ∙ file_as findings it f is (part rows (codes "file")) say.file;
      line = ap (λ p. (span_of (with_posn p figures)).line) posn ∙ (span_line figures (above figures.first_line false figures.line) ∙ above_line);
      column = ap (λ p. (span_of (with_posn p figures)).column) posn ∙ (span_column figures (above figures.first_line false figures.line) ∙ ap₂ column_beside above_line above_column);
      severity = ap (severity_said rows) (text_as findings it f is (codes "severity") (severity_word f.severity) (part rows (codes "severity")) (severity_key_of f) say.severity ∙ word_text f.severity) ∙ severity_as rows f.severity say.no_letter say.no_levels;
      code = text_way 0 (codes "source") (part rows (codes "code")) it.spot (said_of (source_json f.code)) say.code (λ path one. said_as findings it f is (codes "source") (source_json f.code) path (source_of f) one) ∙ code_said f.code;
    }

pub reads_message : (findings : List FindingParts) → ReadsMessage findings
reads_message findings list it f say is =
    let rows : List Row = list.rows.items in
    ap₂ option_or (text_as findings it f is (codes "message") (held f.message) (part rows (codes "message")) (message_of f) say.message)
    (text_way 0 (codes "source") (part rows (codes "code")) it.spot (said_of (source_json f.code)) say.code (λ path one. said_as findings it f is (codes "source") (source_json f.code) path (source_of f) one) ∙ code_said f.code)

source_as : (code : Option (List ℕ)) → said_of (source_json code) ≡ source_said code
source_as None = refl
source_as (Some code) = refl

any_words : (own : List (Bor (List ℕ))) (test : List ℕ → Bool) → list_any (λ word. test word.now) own ≡ list_any test (map (λ word. word.now) own)
any_words [] test = refl
any_words (word ∷ own) test = ap (λ b. test word.now || b) (any_words own test)

begins_by : (guard : Guard) (own : List (List ℕ)) (code : Option (List ℕ)) → map (λ word. word.now) guard.words.items ≡ own → guard.ask ≡ Begins → word_fits guard (word_of (source_said code)) ≡ begins_any own code
begins_by guard own None are ask = refl
begins_by guard own (Some code) are ask =
    ap (λ a. any_fits a (held code) guard.words.items) ask ∙ (any_words guard.words.items (starts_with nat_eq (held code)) ∙ ap (list_any (starts_with nat_eq (held code))) are)

others_by : (guard : Guard) (own : List (List ℕ)) (code : Option (List ℕ)) → map (λ word. word.now) guard.words.items ≡ own → guard.ask ≡ BeginsOther → word_fits guard (word_of (source_said code)) ≡ begins_any own code
others_by guard own None are ask = refl
others_by guard own (Some code) are ask =
    ap (λ a. any_fits a (held code) guard.words.items) ask ∙ (any_words guard.words.items (starts_with nat_eq (held code)) ∙ ap (list_any (starts_with nat_eq (held code))) are)

pub reads_conditions : (findings : List FindingParts) → ReadsConditions findings
unfolding holds
reads_conditions findings guard own it f way are is =
    let source : said_at guard.path it.spot ≡ source_said f.code = said_as findings it f is (codes "source") (source_json f.code) guard.path (source_of f) way ∙ source_as f.code in
    (λ ask. ap₂ (asks guard) ask source ∙ begins_by guard own f.code are ask, λ ask. ap₂ (asks guard) ask source ∙ ap not (others_by guard own f.code are ask))

-- What an element is: no row refuses it.
use Rattle.std.proofs.Common.{◌≡◌, ◌∙◌, ℕ, ◌^◌, ◌<◌, if◌then◌else◌, cond, List, [], ◌∷◌, Bool, true, false, Option, Some, None, option_and_then, ap, ap₂, codes, decimal, refl}
use Rattle.std.specs.Option.{option_or}
use Rattle.std.specs.List.{list_any}
use Rattle.std.specs.Str.{bytes_eq}
use Rattle.std.proofs.lemmas.Bool.{or_from}
use Rattle.json.specs.Find.{get, get_member, later_or}
use Rattle.json.specs.Json.{Json, string, Members, member, no_members}
use Rattle.json_spots.specs.declared.step.Path.{Path}
use Rattle.json_spots.specs.Spot.{Reached, Spot}
use Rattle.json_spots.specs.Said.{Said, nothing, words, figure, truth, other, said_at, said_of, says}
use Rattle.json_forms.specs.declared.form.List as code_list
use Rattle.json_forms.specs.declared.form.Row.{Row}
use Rattle.json_forms.specs.declared.form.Row.TheVariants.{Part, Only, Aside, Level, Constant}
use Rattle.json_forms.specs.Finding.{arrived, aside, fault_in, fault_of, finding_of, found, is_among, left, message_at, number_keys, outcome_of, part_fault, read, text_keys, told}
use Rattle.json_forms.specs.Place.{posn_fault}
use Rattle.json_forms.specs.Guard.{all_hold, any_holds, stops}
use Rattle.json_forms.specs.Said.{Fault, number_fault, number_said, number_wanted, text_fault, text_wanted}
use Rattle.ci_formats.specs.Finding.{FindingParts}
use Rattle.ci_formats.specs.Checkstyle.{severity_word}
use Rattle.ci_formats.specs.Files.{or_zero}
use Rattle.ci_formats.specs.Xml.{held}
use Rattle.finding_laws.specs.Checkstyle.Read.{ArePlain, AreWay, IsElementOf, IsPlainPart, IsPlainRow, IsSmall, IsWay, line_part, column_part, end_part, text_part, name_part, message_read, outcome_by, ReadsOutcome}
use Rattle.finding_laws.specs.Checkstyle.Value.{error_value, source_member}
use Rattle.finding_laws.proofs.CheckstyleLemmas.Part.{column_of, error_object, file_name, key_of, line_of, reads_message, said_as, said_two, whole_decimal}

-- ---- all that an element says is text

abbrev IsText : Said → Type 0
IsText nothing = Unit {0}
IsText (words text) = Unit {0}
IsText (figure text) = ⊥
IsText (truth b) = ⊥
IsText other = ⊥

abbrev HasText : Option Json → Type 0
HasText given = IsText (said_of given)

text_later : (later earlier : Option Json) → HasText later → HasText earlier → HasText (later_or later earlier)
text_later None earlier first second = second
text_later (Some value) earlier first second = first

text_if : (is : Bool) (text : List ℕ) → HasText (cond is (Some (string text)) None)
text_if true text = tt
text_if false text = tt

text_member : (field key text : List ℕ) (members : Members) → HasText (get_member field members) → HasText (get_member field (member key (string text) members))
text_member field key text members has = text_later (get_member field members) (cond (bytes_eq key field) (Some (string text)) None) has (text_if (bytes_eq key field) text)

text_source : (field : List ℕ) (code : Option (List ℕ)) → HasText (get_member field (source_member code))
text_source field None = tt
text_source field (Some code) = text_member field (codes "source") (held code) no_members tt

text_object : (field l c s m : List ℕ) (code : Option (List ℕ)) → HasText (get field (error_object l c s m code))
text_object field l c s m code =
    let after_severity : Members = member (codes "message") (string m) (source_member code) in
    let after_column : Members = member (codes "severity") (string s) after_severity in
    let after_line : Members = member (codes "column") (string c) after_column in
    text_member field (codes "line") l after_line
    (text_member field (codes "column") c after_column (text_member field (codes "severity") s after_severity (text_member field (codes "message") m (source_member code) (text_source field code))))

text_of_error : (f : FindingParts) (field : List ℕ) → HasText (key_of f field)
unfolding error_value
text_of_error f field = text_object field (decimal (or_zero f.start.row)) (decimal (or_zero f.start.column)) (severity_word f.severity) (held f.message) f.code

no_end : (l c s m : List ℕ) (code : Option (List ℕ)) → get (codes "endline") (error_object l c s m code) ≡ None
no_end l c s m None = refl
no_end l c s m (Some code) = refl

end_of_error : (f : FindingParts) → key_of f (codes "endline") ≡ None
unfolding error_value
end_of_error f = no_end (decimal (or_zero f.start.row)) (decimal (or_zero f.start.column)) (severity_word f.severity) (held f.message) f.code

-- ---- no fault

wanted_none : (path : Path) (said : Said) → IsText said → text_wanted path said ≡ None
wanted_none path nothing is = refl
wanted_none path (words text) is = refl
wanted_none path (figure text) is = absurd is
wanted_none path (truth b) is = absurd is
wanted_none path other is = absurd is

fault_picked : (give : Path → Option Fault) (path : Path) (picked : Bool) → give path ≡ None → option_and_then give (cond picked (Some path) None) ≡ None
fault_picked give path true none = none
fault_picked give path false none = refl

text_faultless : (out : ℕ) (key : List ℕ) (paths : List Path) (spot : Spot) (said : Said) → AreWay out key paths → ((path : Path) → IsWay out key path → said_at path spot ≡ said) → IsText said → text_fault paths spot ≡ None
unfolding text_fault
text_faultless out key [] spot said way each is = absurd way
text_faultless out key (path ∷ []) spot said way each is =
    fault_picked (λ it. text_wanted it (said_at it spot)) path (says (said_at path spot)) (ap (text_wanted path) (each path way) ∙ wanted_none path said is)
text_faultless out key (path ∷ (next ∷ paths)) spot said way each is = absurd way

number_faultless : (key : List ℕ) (paths : List Path) (spot : Spot) (n : ℕ) → AreWay 0 key paths → ((path : Path) → IsWay 0 key path → said_at path spot ≡ words (decimal n)) → n < 2 ^ 32 → number_fault paths spot ≡ None
unfolding number_fault
number_faultless key [] spot n way each small = absurd way
number_faultless key (path ∷ []) spot n way each small =
    fault_picked (λ it. number_wanted it (number_said (said_at it spot))) path (says (said_at path spot))
    (ap (λ said. number_wanted path (number_said said)) (each path way) ∙ ap (number_wanted path) (whole_decimal n small))
number_faultless key (path ∷ (next ∷ paths)) spot n way each small = absurd way

nothing_faultless : (key : List ℕ) (paths : List Path) (spot : Spot) → AreWay 0 key paths → ((path : Path) → IsWay 0 key path → said_at path spot ≡ nothing) → number_fault paths spot ≡ None
unfolding number_fault
nothing_faultless key [] spot way each = absurd way
nothing_faultless key (path ∷ []) spot way each =
    ap (λ said. option_and_then (λ it. number_wanted it (number_said (said_at it spot))) (cond (says said) (Some path) None)) (each path way)
nothing_faultless key (path ∷ (next ∷ paths)) spot way each = absurd way

abbrev fault_by : Bool → Bool → Bool → Option Fault → Option Fault → Option Fault → Option Fault
fault_by a b c first second third = if a then first else if b then second else if c then third else None

either_none : (a b : Bool) (first second third : Option Fault) → first ≡ None → second ≡ None → fault_by a b false first second third ≡ None
either_none true b first second third one two = one
either_none false true first second third one two = two
either_none false false first second third one two = refl

second_none : (b : Bool) (first second third : Option Fault) → second ≡ None → fault_by false b false first second third ≡ None
second_none true first second third none = none
second_none false first second third none = refl

module _ (findings : List FindingParts) (it : Reached) (f : FindingParts) (is : IsElementOf findings it f) (small : IsSmall f) where
  text_fine : (field : List ℕ) (paths : List Path) → AreWay 0 field paths → text_fault paths it.spot ≡ None
  text_fine field paths way =
      text_faultless 0 field paths it.spot (said_of (key_of f field)) way (λ path one. said_as findings it f is field (key_of f field) path refl one) (text_of_error f field)

  name_fine : (paths : List Path) → AreWay 2 (codes "name") paths → text_fault paths it.spot ≡ None
  name_fine paths way =
      text_faultless 2 (codes "name") paths it.spot (words (held f.name)) way
      (λ path one. said_two (codes "name") path it.spot is.around is.file is.rest is.outer one ∙ (ap (λ v. said_of (get (codes "name") v)) is.in_file ∙ ap said_of (file_name findings it f is))) tt

  fault_at : List ℕ → List Path → Bool → Bool → Option Fault
  fault_at key paths a c = fault_by a (is_among text_keys key) c (number_fault paths it.spot) (text_fault paths it.spot) (posn_fault paths it.spot)

  figure_fine : (key : List ℕ) (paths : List Path) → number_fault paths it.spot ≡ None → text_fault paths it.spot ≡ None → fault_at key paths (is_among number_keys key) false ≡ None
  unfolding fault_at
  figure_fine key paths one two = either_none (is_among number_keys key) (is_among text_keys key) (number_fault paths it.spot) (text_fault paths it.spot) (posn_fault paths it.spot) one two

  words_fine : (key : List ℕ) (paths : List Path) → is_among number_keys key ≡ false → text_fault paths it.spot ≡ None → fault_at key paths (is_among number_keys key) false ≡ None
  unfolding fault_at
  words_fine key paths no_number two = ap (λ a. fault_at key paths a false) no_number ∙ second_none (is_among text_keys key) (number_fault paths it.spot) (text_fault paths it.spot) (posn_fault paths it.spot) two

  plain_fine : (key : List ℕ) (paths : List Path) → IsPlainPart key paths → fault_at key paths (is_among number_keys key) false ≡ None
  plain_fine key paths (line_part way) =
      figure_fine key paths
      (number_faultless (codes "line") paths it.spot (or_zero f.start.row) way (λ path one. said_as findings it f is (codes "line") (Some (string (decimal (or_zero f.start.row)))) path (line_of f) one) small.row)
      (text_fine (codes "line") paths way)
  plain_fine key paths (column_part way) =
      figure_fine key paths
      (number_faultless (codes "column") paths it.spot (or_zero f.start.column) way (λ path one. said_as findings it f is (codes "column") (Some (string (decimal (or_zero f.start.column)))) path (column_of f) one) small.column)
      (text_fine (codes "column") paths way)
  plain_fine key paths (end_part way) =
      figure_fine key paths (nothing_faultless (codes "endline") paths it.spot way (λ path one. said_as findings it f is (codes "endline") None path (end_of_error f) one)) (text_fine (codes "endline") paths way)
  plain_fine key paths (text_part field no_number way) = words_fine key paths no_number (text_fine field paths way)
  plain_fine key paths (name_part no_number way) = words_fine key paths no_number (name_fine paths way)

  part_fine : (key : List ℕ) (paths : List Path) → bytes_eq key (codes "posn") ≡ false → IsPlainPart key paths → part_fault key paths it.spot ≡ None
  unfolding fault_at
  part_fine key paths no_posn plain = ap (fault_at key paths (is_among number_keys key)) no_posn ∙ plain_fine key paths plain

  row_fine : (row : Row) → IsPlainRow row → fault_in it.spot row ≡ None
  row_fine (Part key paths) plain = part_fine key.now paths.items plain.0 plain.1
  row_fine (Only guard) plain = refl
  row_fine (Aside guard) plain = absurd plain
  row_fine (Level levels) plain = refl
  row_fine (Constant key word) plain = refl

  rows_fine : (rows : List Row) → ArePlain rows → fault_of rows it.spot ≡ None
  rows_fine [] plain = refl
  rows_fine (row ∷ rows) plain = ap₂ option_or (row_fine row plain.0) (rows_fine rows plain.1)

row_goes : (spot : Spot) (row : Row) → IsPlainRow row → stops spot row ≡ false
row_goes spot (Part key paths) plain = refl
row_goes spot (Only guard) plain = refl
row_goes spot (Aside guard) plain = absurd plain
row_goes spot (Level levels) plain = refl
row_goes spot (Constant key word) plain = refl

rows_go : (spot : Spot) (rows : List Row) → ArePlain rows → any_holds rows spot ≡ false
rows_go spot [] plain = refl
rows_go spot (row ∷ rows) plain = or_from (stops spot row) (list_any (stops spot) rows) (row_goes spot row plain.0) (rows_go spot rows plain.1)

told_as : (list : code_list.List) (spot : Spot) (message : Option (List ℕ)) → any_holds list.rows.items spot ≡ false → told list spot message ≡ outcome_by list spot true message
told_as list spot None goes = refl
told_as list spot (Some message) goes = ap (λ b. if b then aside message else found (finding_of list spot message)) goes

by_conditions : (list : code_list.List) (spot : Spot) (message : Option (List ℕ)) (holds : Bool) → fault_of list.rows.items spot ≡ None → message_at list.rows.items spot ≡ message → any_holds list.rows.items spot ≡ false
    → (if holds then read list spot (fault_of list.rows.items spot) else left) ≡ outcome_by list spot holds message
by_conditions list spot message false fine says_it goes = refl
by_conditions list spot message true fine says_it goes = ap (read list spot) fine ∙ (ap (told list spot) says_it ∙ told_as list spot message goes)

pub reads_outcome : (findings : List FindingParts) → ReadsOutcome findings
unfolding outcome_of
reads_outcome findings list it f say plain is small =
    ap (arrived list it.spot) is.there
    ∙ by_conditions list it.spot (message_read f) (all_hold list.rows.items it.spot) (rows_fine findings it f is small list.rows.items plain) (reads_message findings list it f say is) (rows_go it.spot list.rows.items plain)

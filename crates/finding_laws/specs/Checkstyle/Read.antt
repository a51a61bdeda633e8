-- Which findings are read of the value.
use Rattle.std.specs.Prelude.{◌≡◌, ℕ, ◌==◌, ◌<◌, ◌^◌, List, [], ◌∷◌, Bool, true, false, if◌then◌else◌, nat_eq, nat_lt, not, length, map, flat_map, filter, Option, Some, None, option_and_then, codes}
use Rattle.std.specs.Borrow.{Bor}
use Rattle.std.specs.List.{list_any, starts_with}
use Rattle.std.specs.Option.{option_or}
use Rattle.std.specs.Str.{bytes_eq}
use Rattle.json_spots.specs.declared.step.Path.{Path}
use Rattle.json_spots.specs.declared.step.Step.{Step}
use Rattle.json_spots.specs.declared.step.Step.TheVariants.{Key, Nth, Each, Member}
use Rattle.json_spots.specs.declared.step.Wanted.TheVariants as wanted
use Rattle.json_spots.specs.declared.spot.Arrival.TheVariants.{There}
use Rattle.json_spots.specs.Spot.{Crumb, Spot, Reached}
use Rattle.json_spots.specs.Said.{Said, nothing, words}
use Rattle.json_forms.specs.declared.form.Ask.TheVariants.{Begins, BeginsOther}
use Rattle.json_forms.specs.declared.form.Guard.{Guard}
use Rattle.json_forms.specs.declared.form.List as code_list
use Rattle.json_forms.specs.declared.form.Row.{Row}
use Rattle.json_forms.specs.declared.form.Row.TheVariants.{Part, Only, Aside, Level, Constant}
use Rattle.json_forms.specs.Rows.{is_said, part}
use Rattle.json_forms.specs.Severity.{own}
use Rattle.json_forms.specs.Finding.{Finding, finding_of, found, is_among, left, message_at, number_keys, Outcome, outcome_of, refused}
use Rattle.json_forms.specs.Guard.{all_hold, holds}
use Rattle.json_forms.specs.Read.{elements_in}
use Rattle.ci_formats.specs.Finding.{FindingParts}
use Rattle.ci_formats.specs.Files.{is_on, names_of, or_zero}
use Rattle.ci_formats.specs.Xml.{held}
use Rattle.finding_laws.specs.Checkstyle.Value.{checkstyle_value, error_value, file_value}

-- ---- a list of the form, as `list=checkstyle.file[].error[] file=^^name line=line column=column severity=severity code=source message=message`

-- the one key of these steps
abbrev pub IsKeyAlone : List ℕ → List Step → Type 0
IsKeyAlone key [] = ⊥
IsKeyAlone key (Key own ∷ []) = own.now ≡ key
IsKeyAlone key (Key own ∷ (step ∷ steps)) = ⊥
IsKeyAlone key (Nth at ∷ steps) = ⊥
IsKeyAlone key (Each ∷ steps) = ⊥
IsKeyAlone key (Member ∷ steps) = ⊥

-- out by so many values, and then by a key
pub record IsWay (out : ℕ) (key : List ℕ) (path : Path) : Type 0 where
  pub goes_out : path.out ≡ out
  pub no_name : path.is_name ≡ false
  pub goes_in : IsKeyAlone key path.steps.items

abbrev pub AreWay : ℕ → List ℕ → List Path → Type 0
AreWay out key [] = ⊥
AreWay out key (path ∷ []) = IsWay out key path
AreWay out key (path ∷ (other ∷ paths)) = ⊥

pub record LeadToErrors (steps : List Step) : Type 0 where
  pub whole : Bor (List ℕ)
  pub file : Bor (List ℕ)
  pub error : Bor (List ℕ)
  pub are : steps ≡ Key whole ∷ Key file ∷ Each ∷ Key error ∷ Each ∷ []
  pub of_whole : whole.now ≡ codes "checkstyle"
  pub of_file : file.now ≡ codes "file"
  pub of_error : error.now ≡ codes "error"

-- the rows say where each part is, and nothing of levels or of a place in one text
pub record SayParts (rows : List Row) : Type 0 where
  pub file : AreWay 2 (codes "name") (part rows (codes "file"))
  pub line : AreWay 0 (codes "line") (part rows (codes "line"))
  pub column : AreWay 0 (codes "column") (part rows (codes "column"))
  pub severity : AreWay 0 (codes "severity") (part rows (codes "severity"))
  pub code : AreWay 0 (codes "source") (part rows (codes "code"))
  pub message : AreWay 0 (codes "message") (part rows (codes "message"))
  pub no_posn : part rows (codes "posn") ≡ []
  pub no_letter : is_said rows (codes "as") (codes "letter") ≡ false
  pub no_levels : (word : List ℕ) → own rows word ≡ None

-- ---- the elements

-- an element is a finding's: its object, in the array of the findings on its file
pub record IsElementOf (findings : List FindingParts) (it : Reached) (f : FindingParts) : Type 0 where
  pub there : it.arrival ≡ There
  pub here : it.spot.here.value ≡ error_value f
  pub around : Crumb
  pub file : Crumb
  pub rest : List Crumb
  pub outer : it.spot.outer ≡ around ∷ file ∷ rest
  pub in_file : file.value ≡ file_value findings f.name

abbrev pub Match : {A B : Type 0} → (A → B → Type 0) → List A → List B → Type 0
Match R [] [] = Unit {0}
Match R [] (y ∷ ys) = ⊥
Match R (x ∷ xs) [] = ⊥
Match R (x ∷ xs) (y ∷ ys) = R x y × Match R xs ys

-- findings by their files
abbrev pub by_file : List FindingParts → List FindingParts
by_file findings = flat_map (λ name. filter (is_on name) findings) (names_of findings)

-- a list that leads to the errors leads to an element for each finding, by files, in order
abbrev pub ReachesEach : List FindingParts → Type 0
ReachesEach findings = (list : code_list.List) → LeadToErrors list.at.items → Match (IsElementOf findings) (elements_in list (checkstyle_value findings)) (by_file findings)

-- ---- a finding

-- an empty text says nothing
abbrev pub some_text : List ℕ → Option (List ℕ)
some_text text = if length text == 0 then None else Some text

-- nor does the number 0
abbrev pub from_one : ℕ → Option ℕ
from_one number = if nat_lt number 1 then None else Some number

-- without a row there is no column
abbrev pub column_beside : Option ℕ → Option ℕ → Option ℕ
column_beside None column = None
column_beside (Some line) column = column

abbrev pub code_read : FindingParts → Option (List ℕ)
code_read f = option_and_then (λ code. some_text (held code)) f.code

-- the parts of a finding that is read of a finding's element
pub record ReadsAs (f : FindingParts) (it : Finding) : Type 0 where
  pub file : it.place.file ≡ some_text (held f.name)
  pub line : it.place.span.line ≡ from_one (or_zero f.start.row)
  pub column : it.place.span.column ≡ column_beside (from_one (or_zero f.start.row)) (from_one (or_zero f.start.column))
  pub severity : it.severity ≡ f.severity
  pub code : it.code ≡ code_read f

-- what is said as its message: the code, where the message is empty
abbrev pub message_read : FindingParts → Option (List ℕ)
message_read f = option_or (some_text (held f.message)) (code_read f)

-- numbers of 32 bits
pub record IsSmall (f : FindingParts) : Type 0 where
  pub row : or_zero f.start.row < 2 ^ 32
  pub column : or_zero f.start.column < 2 ^ 32

-- of a finding's element a list with these rows reads the same parts
abbrev pub ReadsParts : List FindingParts → Type 0
ReadsParts findings = (list : code_list.List) (it : Reached) (f : FindingParts) (message : List ℕ) → SayParts list.rows.items → IsElementOf findings it f → IsSmall f → ReadsAs f (finding_of list it.spot message)

abbrev pub ReadsMessage : List FindingParts → Type 0
ReadsMessage findings = (list : code_list.List) (it : Reached) (f : FindingParts) → SayParts list.rows.items → IsElementOf findings it f → message_at list.rows.items it.spot ≡ message_read f

-- what its source is: the code, or nothing
abbrev pub source_said : Option (List ℕ) → Said
source_said None = nothing
source_said (Some code) = words (held code)

-- a code begins with one of these words
abbrev pub begins_any : List (List ℕ) → Option (List ℕ) → Bool
begins_any own None = false
begins_any own (Some code) = list_any (starts_with nat_eq (held code)) own

-- conditions on the source, as `source~"com.puppycrawl."` and `source%"com.puppycrawl."|"eslint.rules."`, are conditions on the code
abbrev pub ReadsConditions : List FindingParts → Type 0
ReadsConditions findings =
    (guard : Guard) (own : List (List ℕ)) (it : Reached) (f : FindingParts) → IsWay 0 (codes "source") guard.path → map (λ word. word.now) guard.words.items ≡ own → IsElementOf findings it f
    → (guard.ask ≡ Begins → holds guard it.spot ≡ begins_any own f.code) × (guard.ask ≡ BeginsOther → holds guard it.spot ≡ not (begins_any own f.code))

-- ---- what an element is

-- a part at a key of the element, or at the name of its file; a number at one of these keys
pub data IsPlainPart (key : List ℕ) (paths : List Path) : Type 0 where
  line_part : AreWay 0 (codes "line") paths → IsPlainPart key paths
  column_part : AreWay 0 (codes "column") paths → IsPlainPart key paths
  end_part : AreWay 0 (codes "endline") paths → IsPlainPart key paths
  text_part : (field : List ℕ) → is_among number_keys key ≡ false → AreWay 0 field paths → IsPlainPart key paths
  name_part : is_among number_keys key ≡ false → AreWay 2 (codes "name") paths → IsPlainPart key paths

abbrev pub IsPlainRow : Row → Type 0
IsPlainRow (Part key paths) = (bytes_eq key.now (codes "posn") ≡ false) × IsPlainPart key.now paths.items
IsPlainRow (Only guard) = Unit {0}
IsPlainRow (Aside guard) = ⊥
IsPlainRow (Level levels) = Unit {0}
IsPlainRow (Constant key word) = Unit {0}

abbrev pub ArePlain : List Row → Type 0
ArePlain [] = Unit {0}
ArePlain (row ∷ rows) = IsPlainRow row × ArePlain rows

-- the finding, if the conditions hold; without a message and a code it is refused
abbrev pub outcome_by : code_list.List → Spot → Bool → Option (List ℕ) → Outcome
outcome_by list spot false message = left
outcome_by list spot true None = refused spot (record { path = None; wanted = wanted.Message })
outcome_by list spot true (Some message) = found (finding_of list spot message)

-- what an element is, by the conditions of the list
abbrev pub ReadsOutcome : List FindingParts → Type 0
ReadsOutcome findings =
    (list : code_list.List) (it : Reached) (f : FindingParts) → SayParts list.rows.items → ArePlain list.rows.items → IsElementOf findings it f → IsSmall f
    → outcome_of list it ≡ outcome_by list it.spot (all_hold list.rows.items it.spot) (message_read f)

-- Forms as text.
use Rattle.std.specs.Prelude.{ℕ, ◌==◌, List, [], ◌∷◌, ◌++◌, length, if◌then◌else◌, codes, flat_map}
use Rattle.std.specs.Borrow.{Bor}
use Rattle.oxc_protocol.specs.declared.protocol.Severity.{Severity}
use Rattle.oxc_protocol.specs.declared.protocol.Severity.TheVariants as severities
use Rattle.json_spots.specs.declared.step.Path.{Path}
use Rattle.json_spots.specs.declared.mark.MarkRow.{MarkRow}
use Rattle.json_spots.specs.Text.{name_text, path_text, steps_text, row_text as mark_row_text}
use Rattle.json_forms.specs.declared.form.Ask.{Ask}
use Rattle.json_forms.specs.declared.form.Ask.TheVariants.{There, Given, Missing, Is, Begins, Ends, BeginsOther}
use Rattle.json_forms.specs.declared.form.Form.{Form}
use Rattle.json_forms.specs.declared.form.Guard.{Guard}
use Rattle.json_forms.specs.declared.form.List as code_list
use Rattle.json_forms.specs.declared.form.Row.{Row}
use Rattle.json_forms.specs.declared.form.Row.TheVariants.{Part, Only, Aside, Level, Constant}
use Rattle.json_forms.specs.declared.form.Side.{Side}
use Rattle.json_forms.specs.declared.form.SideKind.{SideKind}
use Rattle.json_forms.specs.declared.form.SideKind.TheVariants as kinds

-- as `a.b|c`
unfoldable pub paths_text : List Path → List ℕ
paths_text [] = []
paths_text (path ∷ paths) = path_text path ++ flat_map (λ other. 0x7C ∷ path_text other) paths

-- as `a|"b c"`
unfoldable pub words_text : List (Bor (List ℕ)) → List ℕ
words_text [] = []
words_text (word ∷ words) = name_text word.now ++ flat_map (λ other. 0x7C ∷ name_text other.now) words

abbrev pub severity_text : Severity → List ℕ
severity_text severities.Error = codes "error"
severity_text severities.Warning = codes "warning"
severity_text severities.Advice = codes "advice"

abbrev pub level_text : List ℕ → Severity → List ℕ
level_text word severity = name_text word ++ 0x3A ∷ severity_text severity

-- as `high:error,low:advice`
unfoldable pub levels_text : List (Bor (List ℕ) × Severity) → List ℕ
levels_text [] = []
levels_text (level ∷ levels) = level_text level.0.now level.1 ++ flat_map (λ other. 0x2C ∷ level_text other.0.now other.1) levels

abbrev pub ask_text : Ask → List ℕ
ask_text There = codes "?"
ask_text Given = codes "+"
ask_text Missing = codes "!"
ask_text Is = codes ":"
ask_text Begins = codes "~"
ask_text Ends = codes "$"
ask_text BeginsOther = codes "%"

-- as `level:note|help`
abbrev pub guard_text : Guard → List ℕ
guard_text guard = path_text guard.path ++ ask_text guard.ask ++ words_text guard.words.items

abbrev pub row_text : Row → List ℕ
row_text (Part key paths) = key.now ++ 0x3D ∷ paths_text paths.items
row_text (Only guard) = codes "only=" ++ guard_text guard
row_text (Aside guard) = codes "aside=" ++ guard_text guard
row_text (Level levels) = codes "level=" ++ levels_text levels.items
row_text (Constant key word) = key.now ++ 0x3D ∷ word.now

unfoldable pub rows_text : List Row → List ℕ
rows_text rows = flat_map (λ row. 0x20 ∷ row_text row) rows

abbrev pub side_word : SideKind → List ℕ
side_word kinds.Place = codes "place="
side_word kinds.Label = codes "labels="
side_word kinds.Edit = codes "edits="
side_word kinds.Note = codes "notes="

abbrev pub side_text : Side → List ℕ
side_text side = side_word side.kind ++ steps_text side.at.items ++ rows_text side.rows.items ++ codes "\n"

-- a line, and one for each side
unfoldable pub list_text : code_list.List → List ℕ
list_text list = codes "list=" ++ steps_text list.at.items ++ rows_text list.rows.items ++ codes "\n" ++ flat_map side_text list.sides.items

abbrev pub mark_text : MarkRow → List ℕ
mark_text row = codes " mark=" ++ mark_row_text row

-- a line, unless the form has no name
abbrev pub head_text : Form → List ℕ
head_text form = if length form.name.now == 0 then [] else codes "form=" ++ form.name.now ++ flat_map mark_text form.mark.items ++ codes "\n"

unfoldable pub form_text : Form → List ℕ
form_text form = head_text form ++ flat_map list_text form.lists.items

unfoldable pub forms_text : List Form → List ℕ
forms_text forms = flat_map form_text forms

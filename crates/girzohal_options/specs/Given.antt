-- The values that options are given, and which argument is wrong.
use Rattle.std.specs.Prelude.{◌≡◌, ℕ, List, [], ◌∷◌, ◌++◌, map, codes, if◌then◌else◌, ◌||◌, Bool, true, false, Option, Some, None, option_and_then, is_some, Result, Ok, Err}
use Rattle.std.specs.List.{flat_map, list_any}
use Rattle.std.specs.Option.{option_copied, option_or}
use Rattle.std.specs.Str.{bytes_eq}
use Rattle.escapes.specs.Cuts.{number_of}
use Rattle.line_shapes.specs.Parse.{shape_of}
use Rattle.line_shapes.specs.Shape.{ShapeParts}
use Rattle.line_shapes.specs.declared.parse.ShapeError.{ShapeError}
use Rattle.girzohal_options.specs.declared.InputForm.{InputForm}
use Rattle.girzohal_options.specs.declared.InputForm.TheVariants as form
use Rattle.girzohal_options.specs.declared.OutputForm.{OutputForm}
use Rattle.girzohal_options.specs.Said.{Said, flag, setting, file, unknown, bare, valued, file_named, value_under}
use Rattle.girzohal_options.specs.Values.{color_named, filter_named, first_named, form_named, form_of_tool, is_text, is_tool, level_named, max_row_named, output_in, output_named, severity_named, tabs_named, unit_named, width_named}
use Rattle.girzohal_options.specs.declared.given.Fault.{Fault}
use Rattle.girzohal_options.specs.declared.given.Fault.TheVariants as fault
use Rattle.girzohal_options.specs.declared.given.Given.{Given as GivenValues}
use Rattle.girzohal_options.specs.declared.given.Taken.{Taken}
use Rattle.girzohal_options.specs.declared.table.Program.{Program}
use Rattle.girzohal_options.specs.declared.table.Program.TheVariants.{Girzohal, Server}
use Rattle.girzohal_options.specs.declared.table.Setting.{Setting}
use Rattle.girzohal_options.specs.declared.table.Setting.TheVariants.{From, Tool, Columns, FirstColumn, To, Output, Shape, JsonShape, JsonShapes, Root, Changed, FilterMode, Strip, Baseline, Include, Exclude, Select, Ignore, Severity, Color, Width, Tabs, MaxFindings, MaxRow, FailOn}
use Rattle.girzohal_options.specs.Shapes.{own_parts}

-- the last value of an option, as it is meant
abbrev pub last : {A : Type 0} → (List ℕ → Option A) → List ℕ → List Said → Option A
last meant name [] = None
last meant name (it ∷ rest) = option_or (last meant name rest) (option_and_then meant (value_under name it))

-- the last value of an option that is a text
abbrev pub last_text : List ℕ → List Said → Option (List ℕ)
last_text name all = last (λ value. Some value) name all

-- whether findings that are printed again are left out, if this says so
abbrev pub unique_by : Said → Option Bool
unique_by (flag name) = if bytes_eq name (codes "--unique") then Some true else if bytes_eq name (codes "--no-unique") then Some false else None
unique_by other = None

abbrev pub last_unique : List Said → Option Bool
last_unique [] = None
last_unique (it ∷ rest) = option_or (last_unique rest) (unique_by it)

-- the form in which an input is read: as is asked for, else as the tool writes
abbrev pub form_with : Program → Option InputForm → Option (List ℕ) → InputForm
form_with program (Some it) tool = it
form_with program None (Some tool) = form_of_tool program tool
form_with program None None = form.Auto

abbrev pub form_in : Program → List Said → InputForm
form_in program all = form_with program (last form_named (codes "--from") all) (last_text (codes "--tool") all)

-- nothing is given
abbrev pub nothing : GivenValues
nothing = record { from = None; to = None; columns = None; first_column = None; color = None; width = None; tabs = None; max_findings = None; max_row = None; fail_on = None; filter_mode = None; strip = None; severity = None; unique = None; file = false }

-- what is given, after earlier values: of each option the last value counts
unfoldable pub given_with : GivenValues → List Said → GivenValues
given_with before all = record {
  from = option_or (last form_named (codes "--from") all) before.from;
  to = option_or (last output_named (codes "--to") all) before.to;
  columns = option_or (last unit_named (codes "--columns") all) before.columns;
  first_column = option_or (last first_named (codes "--first-column") all) before.first_column;
  color = option_or (last color_named (codes "--color") all) before.color;
  width = option_or (last width_named (codes "--width") all) before.width;
  tabs = option_or (last tabs_named (codes "--tabs") all) before.tabs;
  max_findings = option_or (last number_of (codes "--max-findings") all) before.max_findings;
  max_row = option_or (last max_row_named (codes "--max-row") all) before.max_row;
  fail_on = option_or (last level_named (codes "--fail-on") all) before.fail_on;
  filter_mode = option_or (last filter_named (codes "--filter-mode") all) before.filter_mode;
  strip = option_or (last number_of (codes "--strip") all) before.strip;
  severity = option_or (last severity_named (codes "--severity") all) before.severity;
  unique = option_or (last_unique all) before.unique;
  file = list_any (λ it. is_some (file_named it)) all || before.file;
}

abbrev pub shapes_by : Result ShapeParts ShapeError → List ShapeParts
shapes_by (Ok shape) = shape ∷ []
shapes_by (Err why) = []

abbrev pub shapes_under : Option (List ℕ) → List ShapeParts
shapes_under None = []
shapes_under (Some text) = shapes_by (shape_of text)

-- the patterns of all `--shape`, in their order
abbrev pub shapes_in : List Said → List ShapeParts
shapes_in all = flat_map (λ it. shapes_under (value_under (codes "--shape") it)) all

-- what is given after these arguments
pub record Takes (before : Taken) (all : List Said) (after : Taken) : Type 0 where
  pub given_is : after.given ≡ given_with before.given all
  pub tool_is : option_copied after.tool ≡ option_or (last_text (codes "--tool") all) (option_copied before.tool)
  pub root_is : option_copied after.root ≡ option_or (last_text (codes "--root") all) (option_copied before.root)
  pub changed_is : option_copied after.changed ≡ option_or (last_text (codes "--changed") all) (option_copied before.changed)
  pub baseline_is : option_copied after.baseline ≡ option_or (last_text (codes "--baseline") all) (option_copied before.baseline)
  pub json_is : option_copied after.json_shapes ≡ option_or (last_text (codes "--json-shapes") all) (option_copied before.json_shapes)
  pub shapes_are : map own_parts after.shapes.items ≡ map own_parts before.shapes.items ++ shapes_in all

-- ---- what is wrong

pub data Wrong : Type 0 where
  -- there is no option with this name
  no_option : List ℕ → Wrong
  -- the value of the option is missing
  no_value : Setting → Wrong
  -- the option takes no value, and has one
  with_value : List ℕ → List ℕ → Wrong
  -- the option doesn't take this value
  other_value : Setting → List ℕ → Wrong
  -- the text isn't a pattern of lines, and why
  no_shape : ShapeError → List ℕ → Wrong
  -- a second file
  second_file : List ℕ → Wrong
  -- a second form to be written
  second_form : List ℕ → Wrong
  -- a unit in which a log's columns can't be counted
  uncounted : Wrong
  -- an option that needs `--changed`, without it
  without_diff : Setting → Wrong
  -- an option for JSON, for an input that is read in another form
  without_json : Setting → Wrong
  -- a file that two outputs go to
  written_twice : List ℕ → Wrong
  -- standard input is read twice
  read_twice : Wrong

abbrev pub wrong : Fault → Wrong
wrong (fault.Unknown name) = no_option name.now
wrong (fault.Bare it) = no_value it
wrong (fault.Valued name value) = with_value name.now value.now
wrong (fault.Value it value) = other_value it value.now
wrong (fault.Shape why text) = no_shape why text.now
wrong (fault.SecondFile name) = second_file name.now
wrong (fault.SecondForm value) = second_form value.now
wrong fault.Uncounted = uncounted
wrong (fault.WithoutDiff it) = without_diff it
wrong (fault.NoJson it) = without_json it
wrong (fault.WrittenTwice path) = written_twice path.now
wrong fault.ReadTwice = read_twice

-- a value is wrong unless its option takes it
abbrev pub unless : Bool → Setting → List ℕ → Option Wrong
unless takes it value = if takes then None else Some (other_value it value)

-- one form is written, so it is given once
abbrev pub once : Option OutputForm → Option OutputForm → List ℕ → Option Wrong
once before None value = Some (other_value To value)
once None (Some form) value = None
once (Some other) (Some form) value = Some (second_form value)

abbrev pub wrong_shape : Result ShapeParts ShapeError → List ℕ → Option Wrong
wrong_shape (Ok shape) text = None
wrong_shape (Err why) text = Some (no_shape why text)

-- what is wrong with the value of an option that takes one of several, or a number
abbrev pub wrong_choice : GivenValues → Setting → List ℕ → Option Wrong
wrong_choice before From value = unless (is_some (form_named value)) From value
wrong_choice before Columns value = unless (is_some (unit_named value)) Columns value
wrong_choice before FirstColumn value = unless (is_some (first_named value)) FirstColumn value
wrong_choice before To value = once before.to (output_named value) value
wrong_choice before FilterMode value = unless (is_some (filter_named value)) FilterMode value
wrong_choice before Strip value = unless (is_some (number_of value)) Strip value
wrong_choice before Severity value = unless (is_some (severity_named value)) Severity value
wrong_choice before Color value = unless (is_some (color_named value)) Color value
wrong_choice before Width value = unless (is_some (width_named value)) Width value
wrong_choice before Tabs value = unless (is_some (tabs_named value)) Tabs value
wrong_choice before MaxFindings value = unless (is_some (number_of value)) MaxFindings value
wrong_choice before MaxRow value = unless (is_some (max_row_named value)) MaxRow value
wrong_choice before FailOn value = unless (is_some (level_named value)) FailOn value
wrong_choice before it value = None

-- what is wrong with the value of an option, after what is given before it
abbrev pub wrong_value : Program → GivenValues → Setting → List ℕ → Option Wrong
wrong_value program before Tool value = unless (is_tool program value) Tool value
wrong_value program before Output value = unless (is_some (output_in value)) Output value
wrong_value program before Shape value = wrong_shape (shape_of value) value
wrong_value program before Root value = None
wrong_value program before Changed value = unless (is_text value) Changed value
wrong_value program before Baseline value = unless (is_text value) Baseline value
wrong_value program before JsonShapes value = unless (is_text value) JsonShapes value
wrong_value program before JsonShape value = unless (is_text value) JsonShape value
wrong_value program before Include value = unless (is_text value) Include value
wrong_value program before Exclude value = unless (is_text value) Exclude value
wrong_value program before Select value = unless (is_text value) Select value
wrong_value program before Ignore value = unless (is_text value) Ignore value
wrong_value program before it value = wrong_choice before it value

-- the server reads one file
abbrev pub wrong_file : Program → Bool → List ℕ → Option Wrong
wrong_file Girzohal again name = None
wrong_file Server again name = if again then Some (second_file name) else None

-- what is wrong with an argument, after what is given before it
abbrev pub wrong_in : Program → GivenValues → Said → Option Wrong
wrong_in program before (flag name) = None
wrong_in program before (setting it value) = wrong_value program before it value
wrong_in program before (file name) = wrong_file program before.file name
wrong_in program before (unknown name) = Some (no_option name)
wrong_in program before (bare it) = Some (no_value it)
wrong_in program before (valued name value) = Some (with_value name value)

-- the first argument that is wrong in itself, or after what is given before it
abbrev pub first_wrong : Program → GivenValues → List Said → Option Wrong
first_wrong program before [] = None
first_wrong program before (it ∷ rest) = option_or (wrong_in program before it) (first_wrong program (given_with before (it ∷ [])) rest)

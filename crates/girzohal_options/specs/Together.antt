-- Which options make no sense together.
use Rattle.std.specs.Prelude.{ℕ, List, [], ◌∷◌, ◌++◌, codes, if◌then◌else◌, ◌||◌, ◌&&◌, not, Bool, true, false, Option, Some, None, is_some, option_map}
use Rattle.std.specs.List.{flat_map, list_any}
use Rattle.std.specs.Option.{option_or}
use Rattle.std.specs.Str.{bytes_eq}
use Rattle.escapes.specs.Cuts.{number_of}
use Rattle.line_shapes.specs.declared.tables.Unit.{Unit as ColumnUnit}
use Rattle.line_shapes.specs.declared.tables.Unit.TheVariants as unit
use Rattle.girzohal_options.specs.declared.InputForm.{InputForm}
use Rattle.girzohal_options.specs.declared.InputForm.TheVariants as form
use Rattle.girzohal_options.specs.declared.table.Program.{Program}
use Rattle.girzohal_options.specs.declared.table.Setting.{Setting}
use Rattle.girzohal_options.specs.declared.table.Setting.TheVariants.{FilterMode, JsonShape, JsonShapes, Strip}
use Rattle.girzohal_options.specs.Given.{Wrong, form_in, last, last_text, read_twice, uncounted, without_diff, without_json, written_twice}
use Rattle.girzohal_options.specs.Lists.{listed, output_by}
use Rattle.girzohal_options.specs.Said.{Said, file_named, value_under}
use Rattle.girzohal_options.specs.Values.{filter_named, output_named, unit_named}

-- the columns of a SARIF log don't count bytes or cells
abbrev pub can_count : InputForm → Option ColumnUnit → Bool
can_count form.Sarif (Some unit.Bytes) = false
can_count form.Sarif (Some unit.Cells) = false
can_count other unit = true

-- an input may be JSON of a tool
abbrev pub can_be_json : InputForm → Bool
can_be_json form.Auto = true
can_be_json form.Document = false
can_be_json form.Sarif = false
can_be_json form.Json = true
can_be_json form.Lines = false

-- an option is given
abbrev pub is_given : List ℕ → List Said → Bool
is_given name all = list_any (λ it. is_some (value_under name it)) all

-- the first text that comes again
abbrev pub first_twice : List (List ℕ) → Option (List ℕ)
first_twice [] = None
first_twice (text ∷ rest) = if list_any (λ other. bytes_eq other text) rest then Some text else first_twice rest

-- standard output, if this is given
abbrev pub to_stdout : Bool → List (List ℕ)
to_stdout given = if given then codes "-" ∷ [] else []

-- what is written: standard output for `--to`, and the outputs
abbrev pub written_in : List Said → List (List ℕ)
written_in all = to_stdout (is_some (last output_named (codes "--to") all)) ++ flat_map (λ it. listed (option_map (λ output. output.1) (output_by it))) all

abbrev pub is_stdin : Option (List ℕ) → Bool
is_stdin None = false
is_stdin (Some name) = bytes_eq name (codes "-")

-- standard input is named more than once
abbrev pub stdin_twice : List Said → Bool
stdin_twice [] = false
stdin_twice (it ∷ rest) = if is_stdin (file_named it) then list_any (λ other. is_stdin (file_named other)) rest else stdin_twice rest

-- a file is named
abbrev pub names_file : List Said → Bool
names_file all = list_any (λ it. is_some (file_named it)) all

-- standard input is among the files, or there are none
abbrev pub reads_stdin : List Said → Bool
reads_stdin all = not (names_file all) || list_any (λ it. is_stdin (file_named it)) all

-- it is read twice: as two files, or as a file and the diff, the baseline or the forms, or as two of these
abbrev pub reads_twice : List Said → Bool
reads_twice all =
    stdin_twice all || (is_stdin (last_text (codes "--changed") all) && (reads_stdin all || is_stdin (last_text (codes "--baseline") all)))
    || (is_stdin (last_text (codes "--baseline") all) && reads_stdin all)
    || (is_stdin (last_text (codes "--json-shapes") all)
    && (reads_stdin all || is_stdin (last_text (codes "--changed") all) || is_stdin (last_text (codes "--baseline") all)))

abbrev pub when : Bool → Wrong → Option Wrong
when is wrong = if is then Some wrong else None

-- an option needs a diff
abbrev pub needs_diff : Setting → Bool → List Said → Option Wrong
needs_diff it given all = when (given && not (is_some (last_text (codes "--changed") all))) (without_diff it)

-- an option is for JSON
abbrev pub needs_json : Program → Setting → Bool → List Said → Option Wrong
needs_json program it given all = when (not (can_be_json (form_in program all)) && given) (without_json it)

-- what makes no sense together
abbrev pub wrong_together : Program → List Said → Option Wrong
wrong_together program all =
    option_or (when (not (can_count (form_in program all) (last unit_named (codes "--columns") all))) uncounted)
    (option_or (needs_json program JsonShape (is_given (codes "--json-shape") all) all)
    (option_or (needs_json program JsonShapes (is_some (last_text (codes "--json-shapes") all)) all)
    (option_or (needs_diff FilterMode (is_some (last filter_named (codes "--filter-mode") all)) all)
    (option_or (needs_diff Strip (is_some (last number_of (codes "--strip") all)) all)
    (option_or (option_map (λ path. written_twice path) (first_twice (written_in all)))
    (when (reads_twice all) read_twice))))))

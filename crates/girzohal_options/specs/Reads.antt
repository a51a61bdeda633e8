-- What arguments ask for.
use Rattle.std.specs.Prelude.{◌≡◌, ⊤, ℕ, List, [], ◌∷◌, map, string_bytes, codes, if◌then◌else◌, ◌||◌, Bool, true, false, Option, Some, None, is_some, option_map, unwrap_or, Result, Ok, Err}
use Rattle.std.specs.List.{list_any}
use Rattle.std.specs.Option.{option_or}
use Rattle.escapes.specs.Cuts.{number_of}
use Rattle.finding_filters.specs.declared.changed.FilterMode.TheVariants as filter
use Rattle.finding_summaries.specs.declared.counted.Level.TheVariants as level
use Rattle.girzohal_options.specs.Shapes.{own_parts}
use Rattle.girzohal_options.specs.declared.Asked.{Asked}
use Rattle.girzohal_options.specs.declared.OutputForm.{OutputForm}
use Rattle.girzohal_options.specs.declared.OutputForm.TheVariants as to
use Rattle.girzohal_options.specs.declared.ThemeChoice.{ThemeChoice}
use Rattle.girzohal_options.specs.declared.ThemeChoice.TheVariants as theme
use Rattle.girzohal_options.specs.declared.reading.Request.{Request}
use Rattle.girzohal_options.specs.declared.reading.Request.TheVariants as request
use Rattle.girzohal_options.specs.declared.reading.Refusal.{Refusal}
use Rattle.girzohal_options.specs.declared.reading.Refusal.TheVariants as refusal
use Rattle.girzohal_options.specs.declared.table.Program.{Program}
use Rattle.girzohal_options.specs.Given.{Wrong, first_wrong, form_in, last, last_text, last_unique, nothing, shapes_in, wrong}
use Rattle.girzohal_options.specs.Lists.{files_in, output_parts, outputs_in, texts_under}
use Rattle.girzohal_options.specs.Said.{Said, is_named}
use Rattle.girzohal_options.specs.Together.{wrong_together}
use Rattle.girzohal_options.specs.Values.{color_named, filter_named, first_named, level_named, max_row_named, output_named, severity_named, tabs_named, unit_named, width_named}

-- an option that takes no value is there
abbrev pub has_flag : List ℕ → List Said → Bool
has_flag name all = list_any (is_named name) all

-- without another output, standard output is written
abbrev pub prints_with : Bool → List (OutputForm × List ℕ) → Bool
prints_with given [] = true
prints_with given (first ∷ rest) = given

abbrev pub prints_in : List Said → Bool
prints_in all = prints_with (is_some (last output_named (codes "--to") all)) (outputs_in all)

-- the theme with ASCII characters has no colors
abbrev pub theme_with : Bool → Option ThemeChoice → ThemeChoice
theme_with ascii color = if ascii then theme.Plain else unwrap_or color theme.Auto

abbrev pub asks_quiet : List Said → Bool
asks_quiet all = has_flag (codes "--no-summary") all || has_flag (codes "--quiet") all || has_flag (codes "-q") all

-- what is asked for is what these arguments say
pub record Asks (program : Program) (all : List Said) (asked : Asked) : Type 0 where
  pub files_are : map string_bytes asked.files.items ≡ files_in all
  pub root_is : string_bytes asked.root ≡ unwrap_or (last_text (codes "--root") all) (codes ".")
  pub anywhere_is : asked.anywhere ≡ has_flag (codes "--allow-outside-root") all
  pub from_is : asked.from ≡ form_in program all
  pub to_is : asked.to ≡ unwrap_or (last output_named (codes "--to") all) to.Drawing
  pub prints_is : asked.prints ≡ prints_in all
  pub outputs_are : map output_parts asked.outputs.items ≡ outputs_in all
  pub theme_is : asked.theme ≡ theme_with (has_flag (codes "--ascii") all) (last color_named (codes "--color") all)
  pub width_is : asked.width ≡ unwrap_or (last width_named (codes "--width") all) None
  pub tabs_is : asked.tabs ≡ unwrap_or (last tabs_named (codes "--tabs") all) 4
  pub tool_is : option_map string_bytes asked.tool ≡ last_text (codes "--tool") all
  pub shapes_are : map own_parts asked.shapes.items ≡ shapes_in all
  pub json_are : map string_bytes asked.json_shapes.items ≡ texts_under (codes "--json-shape") all
  pub json_file_is : option_map string_bytes asked.json_shapes_file ≡ last_text (codes "--json-shapes") all
  pub columns_are : asked.columns ≡ last unit_named (codes "--columns") all
  pub first_is : asked.first_column ≡ last first_named (codes "--first-column") all
  pub only_is : asked.only_findings ≡ has_flag (codes "--only-findings") all
  pub level_is : asked.fail_on ≡ unwrap_or (last level_named (codes "--fail-on") all) level.Error
  pub most_is : asked.most ≡ last number_of (codes "--max-findings") all
  pub row_is : asked.max_row ≡ unwrap_or (last max_row_named (codes "--max-row") all) (Some 1000)
  pub quiet_is : asked.quiet ≡ asks_quiet all
  pub raw_is : asked.raw ≡ has_flag (codes "--raw") all
  pub changed_is : option_map string_bytes asked.changed ≡ last_text (codes "--changed") all
  pub filter_is : asked.filter_mode ≡ unwrap_or (last filter_named (codes "--filter-mode") all) filter.Added
  pub strip_is : asked.strip ≡ last number_of (codes "--strip") all
  pub baseline_is : option_map string_bytes asked.baseline ≡ last_text (codes "--baseline") all
  pub include_is : map string_bytes asked.include.items ≡ texts_under (codes "--include") all
  pub exclude_is : map string_bytes asked.exclude.items ≡ texts_under (codes "--exclude") all
  pub select_is : map string_bytes asked.select.items ≡ texts_under (codes "--select") all
  pub ignore_is : map string_bytes asked.ignore.items ≡ texts_under (codes "--ignore") all
  pub severity_is : asked.severity ≡ last severity_named (codes "--severity") all
  pub unique_is : asked.unique ≡ last_unique all
  pub no_rules : asked.rules ≡ None

-- ---- what arguments are

abbrev pub asks_help : List Said → Bool
asks_help all = has_flag (codes "--help") all || has_flag (codes "-h") all

abbrev pub asks_version : List Said → Bool
asks_version all = has_flag (codes "--version") all || has_flag (codes "-V") all

-- the first wrong argument; if none is wrong in itself, what makes no sense together
abbrev pub wrong_word : Program → List Said → Option Wrong
wrong_word program all = option_or (first_wrong program nothing all) (wrong_together program all)

-- help comes before the version, and both before all else; wrong arguments ask for nothing
abbrev pub Reads : Program → List Said → Result Request Refusal → Type 0
Reads program all (Ok request.Help) = asks_help all ≡ true
Reads program all (Ok request.Version) = (asks_help all ≡ false) × (asks_version all ≡ true)
Reads program all (Ok (request.Run asked)) = (asks_help all ≡ false) × (asks_version all ≡ false) × (wrong_word program all ≡ None) × Asks program all asked
Reads program all (Err (refusal.Fault it)) = (asks_help all ≡ false) × (asks_version all ≡ false) × (wrong_word program all ≡ Some (wrong it))
Reads program all (Err refusal.OutOfMemory) = ⊤

-- What the values of options mean.
use Rattle.std.specs.Prelude.{ℕ, List, codes, if◌then◌else◌, ◌||◌, ◌&&◌, ◌==◌, nat_le, Bool, true, false, Option, Some, None, option_map, option_and_then, is_some, not, [], ◌∷◌}
use Rattle.std.specs.List.{list_any}
use Rattle.std.specs.Str.{bytes_eq}
use Rattle.escapes.specs.Cuts.{cut_at, number_of}
use Rattle.finding_filters.specs.declared.changed.FilterMode.{FilterMode}
use Rattle.finding_filters.specs.declared.changed.FilterMode.TheVariants as filter
use Rattle.line_shapes.specs.declared.tables.Unit.{Unit as ColumnUnit}
use Rattle.line_shapes.specs.declared.tables.Unit.TheVariants as unit
use Rattle.line_shapes.specs.Shape.{ShapeParts}
use Rattle.line_shapes.specs.Tools as tools
use Rattle.oxc_protocol.specs.declared.protocol.Severity.{Severity}
use Rattle.oxc_protocol.specs.declared.protocol.Severity.TheVariants as severity
use Rattle.finding_summaries.specs.declared.counted.Level.{Level}
use Rattle.finding_summaries.specs.declared.counted.Level.TheVariants as level
use Rattle.girzohal_options.specs.declared.InputForm.{InputForm}
use Rattle.girzohal_options.specs.declared.InputForm.TheVariants as form
use Rattle.girzohal_options.specs.declared.OutputForm.{OutputForm}
use Rattle.girzohal_options.specs.declared.OutputForm.TheVariants as to
use Rattle.girzohal_options.specs.declared.ThemeChoice.{ThemeChoice}
use Rattle.girzohal_options.specs.declared.ThemeChoice.TheVariants as theme
use Rattle.girzohal_options.specs.declared.table.Program.{Program}
use Rattle.girzohal_options.specs.declared.table.Program.TheVariants.{Girzohal, Server}
use Rattle.girzohal_options.specs.Names.{json_tools}

-- ---- names

unfoldable pub form_named : List ℕ → Option InputForm
form_named value =
    if bytes_eq value (codes "auto") then Some form.Auto
    else if bytes_eq value (codes "document") then Some form.Document
    else if bytes_eq value (codes "sarif") then Some form.Sarif
    else if bytes_eq value (codes "json") then Some form.Json
    else if bytes_eq value (codes "lines") then Some form.Lines
    else None

unfoldable pub output_named : List ℕ → Option OutputForm
output_named value =
    if bytes_eq value (codes "drawing") then Some to.Drawing
    else if bytes_eq value (codes "json") then Some to.Json
    else if bytes_eq value (codes "document") then Some to.Document
    else if bytes_eq value (codes "sarif") then Some to.Sarif
    else if bytes_eq value (codes "problems") then Some to.Problems
    else if bytes_eq value (codes "github") then Some to.Github
    else if bytes_eq value (codes "gitlab") then Some to.Gitlab
    else if bytes_eq value (codes "checkstyle") then Some to.Checkstyle
    else if bytes_eq value (codes "junit") then Some to.Junit
    else if bytes_eq value (codes "stylish") then Some to.Stylish
    else if bytes_eq value (codes "summary") then Some to.Summary
    else if bytes_eq value (codes "markdown") then Some to.Markdown
    else if bytes_eq value (codes "html") then Some to.Html
    else None

-- a text with something in it
abbrev pub is_text : List ℕ → Bool
is_text [] = false
is_text (byte ∷ rest) = true

abbrev pub with_path : List ℕ × List ℕ → Option (OutputForm × List ℕ)
with_path parts = if is_text parts.1 then option_map (λ to. (to, parts.1)) (output_named parts.0) else None

-- a form and the file that is written in it, around an equals sign
unfoldable pub output_in : List ℕ → Option (OutputForm × List ℕ)
output_in value = option_and_then with_path (cut_at 0x3D value)

-- the theme of a choice of colors
unfoldable pub color_named : List ℕ → Option ThemeChoice
color_named value =
    if bytes_eq value (codes "auto") then Some theme.Auto
    else if bytes_eq value (codes "always") then Some theme.Unicode
    else if bytes_eq value (codes "never") then Some theme.UnicodeNocolor
    else None

unfoldable pub unit_named : List ℕ → Option ColumnUnit
unit_named value =
    if bytes_eq value (codes "bytes") then Some unit.Bytes
    else if bytes_eq value (codes "characters") then Some unit.Characters
    else if bytes_eq value (codes "utf16") then Some unit.Utf16
    else if bytes_eq value (codes "cells") then Some unit.Cells
    else None

unfoldable pub level_named : List ℕ → Option Level
level_named value =
    if bytes_eq value (codes "error") then Some level.Error
    else if bytes_eq value (codes "warning") then Some level.Warning
    else if bytes_eq value (codes "advice") then Some level.Advice
    else if bytes_eq value (codes "never") then Some level.Never
    else None

-- the lowest severity of findings that stay
unfoldable pub severity_named : List ℕ → Option Severity
severity_named value =
    if bytes_eq value (codes "error") then Some severity.Error
    else if bytes_eq value (codes "warning") then Some severity.Warning
    else if bytes_eq value (codes "advice") then Some severity.Advice
    else None

unfoldable pub filter_named : List ℕ → Option FilterMode
filter_named value =
    if bytes_eq value (codes "added") then Some filter.Added
    else if bytes_eq value (codes "diff_context") then Some filter.DiffContext
    else if bytes_eq value (codes "file") then Some filter.File
    else if bytes_eq value (codes "nofilter") then Some filter.NoFilter
    else None

-- ---- numbers

unfoldable pub first_named : List ℕ → Option ℕ
first_named value =
    if bytes_eq value (codes "0") then Some 0
    else if bytes_eq value (codes "1") then Some 1
    else None

-- a number from the least to the most
abbrev pub within : ℕ → ℕ → ℕ → Option ℕ
within least most n = if nat_le least n && nat_le n most then Some n else None

unfoldable pub tabs_named : List ℕ → Option ℕ
tabs_named value = option_and_then (within 1 16) (number_of value)

-- a number from 1
abbrev pub positive : ℕ → Option ℕ
positive n = if n == 0 then None else Some n

-- none where rows of any length are drawn
unfoldable pub max_row_named : List ℕ → Option (Option ℕ)
max_row_named value = option_map positive (number_of value)

-- none where the environment is to say it
unfoldable pub width_named : List ℕ → Option (Option ℕ)
width_named value = if bytes_eq value (codes "auto") then Some None else option_map (λ n. Some n) (option_and_then positive (number_of value))

-- ---- tools

-- something is known of the lines or of the columns of a tool
abbrev pub are_any : List ShapeParts → Bool
are_any [] = false
are_any (shape ∷ shapes) = true

abbrev pub has_lines : List ℕ → Bool
has_lines tool = are_any (tools.shapes_of tool) || is_some (tools.columns_of tool)

-- a form of JSON has this name; the server reads no other JSON than logs
abbrev pub has_json : Program → List ℕ → Bool
has_json Girzohal tool = list_any (λ known. bytes_eq known tool) json_tools
has_json Server tool = false

unfoldable pub is_tool : Program → List ℕ → Bool
is_tool program tool = bytes_eq tool (codes "sarif") || has_json program tool || has_lines tool

-- the server reads a log by its first bytes
abbrev pub lines_or_auto : Program → InputForm
lines_or_auto Girzohal = form.Lines
lines_or_auto Server = form.Auto

-- the first bytes decide where a tool writes lines too
abbrev pub json_or_auto : Bool → InputForm
json_or_auto true = form.Auto
json_or_auto false = form.Json

-- the form in which a tool writes
unfoldable pub form_of_tool : Program → List ℕ → InputForm
form_of_tool program tool =
    if bytes_eq tool (codes "sarif") then form.Sarif
    else if has_json program tool then json_or_auto (has_lines tool)
    else lines_or_auto program

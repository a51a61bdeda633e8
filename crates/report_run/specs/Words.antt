-- Which words are a command.
use Rattle.std.specs.Prelude.{ℕ, ◌≤◌, ⊤, ◌∷◌, List, [], length, filter_map, Option, Some, None, option_map, option_and_then, ◌==◌, ◌&&◌, not, nat_le, Bool, true, false, if◌then◌else◌, codes}
use Rattle.std.specs.List.{list_all}
use Rattle.std.specs.Option.{option_or}
use Rattle.std.specs.Str.{bytes_eq}
use Rattle.std.specs.Str.Parse.{digits_value}
use Rattle.documents.specs.Kinds.{only_if}
use Rattle.report_run.specs.declared.words.Command.{Command}
use Rattle.report_run.specs.declared.words.Command.TheVariants.{Draw, Make}
use Rattle.report_run.specs.declared.words.Setting.{Setting}
use Rattle.report_run.specs.declared.words.Setting.TheVariants.{Theme, Width, Tabs, Json}
use Rattle.report_run.specs.declared.words.ThemeName.{ThemeName}
use Rattle.report_run.specs.declared.words.ThemeName.TheVariants.{Plain, Unicode, UnicodeNocolor}

-- ---- what stands behind a setting's name

abbrev pub is_digit : ℕ → Bool
is_digit byte = nat_le 0x30 byte && nat_le byte 0x39

-- the first of several digits isn't 0
abbrev pub begins_well : List ℕ → Bool
begins_well [] = false
begins_well (digit ∷ []) = true
begins_well (digit ∷ more) = not (digit == 0x30)

-- the number that one to nine digits are
abbrev pub number : List ℕ → Option ℕ
number word = if list_all is_digit word && begins_well word && nat_le (length word) 9 then Some (digits_value 10 word) else None

-- the same, where it is from the least to the most
abbrev pub number_in : ℕ → ℕ → List ℕ → Option ℕ
number_in least most word = option_and_then (only_if (λ n. nat_le least n && nat_le n most)) (number word)

abbrev pub theme_named : List ℕ → Option ThemeName
theme_named word =
    if bytes_eq word (codes "none") then Some Plain
    else if bytes_eq word (codes "unicode") then Some Unicode
    else if bytes_eq word (codes "unicode_nocolor") then Some UnicodeNocolor
    else None

-- ---- the settings of a drawing

-- a setting's name and its value
abbrev pub setting_of : List ℕ → List ℕ → Option Setting
setting_of name value =
    if bytes_eq name (codes "--theme") then option_map (λ it. Theme it) (theme_named value)
    else if bytes_eq name (codes "--width") then option_map (λ it. Width it) (number_in 0 999999999 value)
    else if bytes_eq name (codes "--tabs") then option_map (λ it. Tabs it) (number_in 1 16 value)
    else None

-- the settings that words are, one after another
abbrev mutual
  pub settings : List (List ℕ) → Option (List Setting)
  settings [] = Some []
  settings (name ∷ rest) = if bytes_eq name (codes "--json") then option_map (λ more. Json ∷ more) (settings rest) else settings_with name rest

  pub settings_with : List ℕ → List (List ℕ) → Option (List Setting)
  settings_with name [] = None
  settings_with name (value ∷ rest) = option_and_then (λ one. option_map (λ more. one ∷ more) (settings rest)) (setting_of name value)

abbrev pub theme_set : Setting → Option ThemeName
theme_set (Theme it) = Some it
theme_set (Width it) = None
theme_set (Tabs it) = None
theme_set Json = None

abbrev pub width_set : Setting → Option ℕ
width_set (Theme it) = None
width_set (Width it) = Some it
width_set (Tabs it) = None
width_set Json = None

abbrev pub tabs_set : Setting → Option ℕ
tabs_set (Theme it) = None
tabs_set (Width it) = None
tabs_set (Tabs it) = Some it
tabs_set Json = None

abbrev pub json_set : Setting → Option Bool
json_set (Theme it) = None
json_set (Width it) = None
json_set (Tabs it) = None
json_set Json = Some true

-- the one value there is, the given one where there is none, and none where there are more
abbrev pub at_most_one : {A : Type 0} → A → List A → Option A
at_most_one given [] = Some given
at_most_one given (it ∷ []) = Some it
at_most_one given (it ∷ other ∷ more) = None

-- the drawing with these settings, each of which is made at most once
abbrev pub drawing_with : List Setting → Option Command
drawing_with all =
    option_and_then (λ theme. option_and_then (λ width. option_and_then (λ tabs. option_map (λ json. Draw theme width tabs json)
    (at_most_one false (filter_map json_set all)))
    (at_most_one 4 (filter_map tabs_set all)))
    (at_most_one 80 (filter_map width_set all)))
    (at_most_one Plain (filter_map theme_set all))

-- ---- the command

-- the count behind `--make`
abbrev pub made_by : List (List ℕ) → Option ℕ
made_by [] = None
made_by (name ∷ []) = None
made_by (name ∷ count ∷ []) = if bytes_eq name (codes "--make") then number_in 0 5000 count else None
made_by (name ∷ count ∷ other ∷ more) = None

-- the command that the words are, or none
unfoldable pub command_of : List (List ℕ) → Option Command
command_of words = option_or (option_map (λ count. Make count) (made_by words)) (option_and_then drawing_with (settings words))

-- no more reports are made than the words can ask for
abbrev pub IsFew : Command → Type 0
IsFew (Draw theme width tabs json) = ⊤
IsFew (Make count) = count ≤ 5000

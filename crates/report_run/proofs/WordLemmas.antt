-- What words say, read one after another.
use Rattle.std.proofs.Common.{◌≡◌, ◌≢◌, ◌<◌, ◌≤◌, ◌∙◌, ℕ, ◌^◌, List, [], ◌∷◌, length, map, filter_map, Bool, true, false, Option, Some, None, option_map, option_and_then, unwrap_or, String, Global, string_bytes, Result, Ok, Err, refl, sym, ap, arith}
use Rattle.std.proofs.lemmas.Grind.{common_steps}
use Rattle.std.specs.Result.{result_ok}
use Rattle.std.specs.List.{list_all}
use Rattle.std.specs.Str.{all_ascii_digits}
use Rattle.std.specs.Str.Parse.{ParsesUnsigned, digits_value}
use Rattle.std.proofs.lemmas.Str.Parse.{parse_digits, digits_value_short}
use Rattle.numerals.proofs.NumeralLemmas.{digits_all, own}
use Rattle.report_run.specs.declared.words.Command.{Command}
use Rattle.report_run.specs.declared.words.Command.TheVariants.{Draw}
use Rattle.report_run.specs.declared.words.Setting.{Setting}
use Rattle.report_run.specs.declared.words.Setting.TheVariants.{Theme, Width, Tabs, Json}
use Rattle.report_run.specs.declared.words.Settings.{Settings}
use Rattle.report_run.specs.declared.words.ThemeName.{ThemeName}
use Rattle.report_run.specs.declared.words.ThemeName.TheVariants.{Plain}
use Rattle.report_run.specs.Words.{number, is_digit, begins_well, made_by, at_most_one, theme_set, width_set, tabs_set, json_set, drawing_with}
use Rattle.report_run.specs.Settled.{settled, with_setting, nothing_set, drawing_of}

-- ---- words

-- words that aren't two
pub not_two : (words : List (String Global)) → length words ≢ 2 → made_by (map string_bytes words) ≡ None
not_two [] other = refl
not_two (first ∷ []) other = refl
not_two (first ∷ second ∷ []) other = absurd (other refl)
not_two (first ∷ second ∷ third ∷ more) other = refl

pub one_more : (it next : Settings) (setting : Setting) (rest : Option (List Setting)) → with_setting it setting ≡ Some next
    → option_and_then (settled it) (option_map (λ more. setting ∷ more) rest) ≡ option_and_then (settled next) rest
one_more it next setting None is = refl
one_more it next setting (Some more) is = rw is refl

pub no_more : (it : Settings) (setting : Setting) (rest : Option (List Setting)) → with_setting it setting ≡ None
    → option_and_then (settled it) (option_map (λ more. setting ∷ more) rest) ≡ None
no_more it setting None is = refl
no_more it setting (Some more) is = rw is refl

-- ---- the drawing that settings make

abbrev combined : Option ThemeName → Option ℕ → Option ℕ → Option Bool → Option Command
combined theme width tabs json = option_and_then (λ t. option_and_then (λ w. option_and_then (λ b. option_map (λ j. Draw t w b j) json) tabs) width) theme

no_width : (theme : Option ThemeName) (tabs : Option ℕ) (json : Option Bool) → combined theme None tabs json ≡ None
no_width None tabs json = refl
no_width (Some t) tabs json = refl

no_tabs : (theme : Option ThemeName) (width : Option ℕ) (json : Option Bool) → combined theme width None json ≡ None
no_tabs None width json = refl
no_tabs (Some t) None json = refl
no_tabs (Some t) (Some w) json = refl

no_json : (theme : Option ThemeName) (width tabs : Option ℕ) → combined theme width tabs None ≡ None
no_json None width tabs = refl
no_json (Some t) None tabs = refl
no_json (Some t) (Some w) None = refl
no_json (Some t) (Some w) (Some b) = refl

-- the one value there is, of one from before and a list
abbrev one_of : {A : Type 0} → Option A → A → List A → Option A
one_of None given list = at_most_one given list
one_of (Some it) given [] = Some it
one_of (Some it) given (other ∷ more) = None

one_first : {A : Type 0} (it given : A) (list : List A) → one_of (Some it) given list ≡ at_most_one given (it ∷ list)
one_first it given [] = refl
one_first it given (other ∷ more) = refl

none_behind : {A : Type 0} (it : Option A) (given : A) → one_of it given [] ≡ Some (unwrap_or it given)
none_behind None given = refl
none_behind (Some it) given = refl

abbrev as_set : Bool → Option Bool
as_set true = Some true
as_set false = None

json_behind : (json : Bool) → one_of (as_set json) false [] ≡ Some json
json_behind true = refl
json_behind false = refl

abbrev drawing_from : Option ThemeName → Option ℕ → Option ℕ → Bool → List Setting → Option Command
drawing_from t w b j all = combined (one_of t Plain (filter_map theme_set all)) (one_of w 80 (filter_map width_set all)) (one_of b 4 (filter_map tabs_set all)) (one_of (as_set j) false (filter_map json_set all))

from_settings : (t : Option ThemeName) (w b : Option ℕ) (j : Bool) (all : List Setting)
    → option_map drawing_of (settled (record { theme = t; width = w; tabs = b; json = j }) all) ≡ drawing_from t w b j all
from_settings t w b j [] = rw (none_behind t Plain, none_behind w 80, none_behind b 4, json_behind j) refl
from_settings (Some u) w b j (Theme x ∷ more) = refl
from_settings None w b j (Theme x ∷ more) =
    from_settings (Some x) w b j more
    ∙ ap (λ o. combined o (one_of w 80 (filter_map width_set more)) (one_of b 4 (filter_map tabs_set more)) (one_of (as_set j) false (filter_map json_set more))) (one_first x Plain (filter_map theme_set more))
from_settings t (Some u) b j (Width x ∷ more) = sym (no_width (one_of t Plain (filter_map theme_set more)) (one_of b 4 (filter_map tabs_set more)) (one_of (as_set j) false (filter_map json_set more)))
from_settings t None b j (Width x ∷ more) =
    from_settings t (Some x) b j more
    ∙ ap (λ o. combined (one_of t Plain (filter_map theme_set more)) o (one_of b 4 (filter_map tabs_set more)) (one_of (as_set j) false (filter_map json_set more))) (one_first x 80 (filter_map width_set more))
from_settings t w (Some u) j (Tabs x ∷ more) = sym (no_tabs (one_of t Plain (filter_map theme_set more)) (one_of w 80 (filter_map width_set more)) (one_of (as_set j) false (filter_map json_set more)))
from_settings t w None j (Tabs x ∷ more) =
    from_settings t w (Some x) j more
    ∙ ap (λ o. combined (one_of t Plain (filter_map theme_set more)) (one_of w 80 (filter_map width_set more)) o (one_of (as_set j) false (filter_map json_set more))) (one_first x 4 (filter_map tabs_set more))
from_settings t w b true (Json ∷ more) = sym (no_json (one_of t Plain (filter_map theme_set more)) (one_of w 80 (filter_map width_set more)) (one_of b 4 (filter_map tabs_set more)))
from_settings t w b false (Json ∷ more) =
    from_settings t w b true more
    ∙ ap (λ o. combined (one_of t Plain (filter_map theme_set more)) (one_of w 80 (filter_map width_set more)) (one_of b 4 (filter_map tabs_set more)) o) (one_first true false (filter_map json_set more))

settled_drawing : (all : Option (List Setting)) → option_map drawing_of (option_and_then (settled nothing_set) all) ≡ option_and_then drawing_with all
settled_drawing None = refl
settled_drawing (Some all) = from_settings None None None false all

-- the drawing with the settings of all words
pub drawing_is : (all : Option (List Setting)) (it : Settings) → Some it ≡ option_and_then (settled nothing_set) all → Some (drawing_of it) ≡ option_and_then drawing_with all
drawing_is all it is = ap (option_map drawing_of) is ∙ settled_drawing all

pub drawing_none : (all : Option (List Setting)) → None ≡ option_and_then (settled nothing_set) all → None ≡ option_and_then drawing_with all
drawing_none all is = ap (option_map drawing_of) is ∙ settled_drawing all

-- ---- numbers

all_digits : (word : List ℕ) → list_all is_digit word ≡ true → all_ascii_digits word ≡ true
all_digits word all = sym (digits_all word) ∙ all

short_value : (word : List ℕ) → list_all is_digit word ≡ true → length word ≤ 9 → digits_value 10 word < 2 ^ 32
short_value word all short = omega (arith, digits_value_short own word 9 (all_digits word all) short)

number_is : (word : List ℕ) → list_all is_digit word ≡ true → begins_well word ≡ true → length word ≤ 9 → number word ≡ Some (digits_value 10 word)
number_is word all begins short = grind (arith, common_steps)

not_empty : (word : List ℕ) → begins_well word ≡ true → 0 < length word
not_empty [] begins = cc
not_empty (byte ∷ rest) begins = omega arith

pub number_read : {E : Type 0} (word : List ℕ) (r : Result ℕ E) → list_all is_digit word ≡ true → begins_well word ≡ true → length word ≤ 9 → ParsesUnsigned 32 10 word r → result_ok r ≡ number word
number_read {E} word (Ok n) all begins short parses =
    let read = parse_digits own {E = E} 32 word (Ok n) parses (all_digits word all) in
    rw (number_is word all begins short, read.1) refl
number_read {E} word (Err e) all begins short parses =
    let refused = parse_digits own {E = E} 32 word (Err e) parses (all_digits word all) in
    absurd (refused (not_empty word begins, short_value word all short))

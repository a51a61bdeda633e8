-- What the lines of a snippet are drawn by.
use Rattle.std.specs.Prelude.{ℕ, Bool, List, Option, ◌==◌, ◌%◌, slice_index_or}
use Rattle.oxc_plan.specs.Plan.{Ordered, ordered_at}
use Rattle.oxc_handlers.specs.declared.theme.GraphicalTheme.{GraphicalTheme}
use Rattle.oxc_handlers.specs.declared.theme.Style.{Style}
use Rattle.oxc_handlers.specs.declared.theme.Style.TheVariants.{Plain}

-- the theme, the report's labels in label order, the distance of the tab stops, the most bars beside a row, and the digits
-- of the row numbers
pub record SettingView : Type 0 where
  pub theme : GraphicalTheme
  pub labels : List Ordered
  pub tab : ℕ
  pub gutter : ℕ
  pub digits : ℕ

-- the setting of a report, before what depends on a snippet is set
abbrev pub setting_for : GraphicalTheme → ℕ → List Ordered → SettingView
setting_for theme tab labels = record { theme = theme; labels = labels; tab = tab; gutter = 0; digits = 1 }

-- the text of a label, by its place in label order
unfoldable pub text_at : List Ordered → ℕ → Option (List ℕ)
text_at labels at = (ordered_at labels at).text

-- a label has no byte
unfoldable pub is_empty_at : List Ordered → ℕ → Bool
is_empty_at labels at = (ordered_at labels at).span.start == (ordered_at labels at).span.end

-- the style of a label: the three highlights in turn, over the label order of the whole report
unfoldable pub highlight : GraphicalTheme → ℕ → Style
highlight theme label = slice_index_or theme.styles.highlights (label % 3) Plain

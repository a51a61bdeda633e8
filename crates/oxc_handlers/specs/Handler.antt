-- What contracts see of a handler.
use Rattle.std.specs.Prelude.{ℕ}
use Rattle.oxc_handlers.specs.declared.theme.GraphicalTheme.{GraphicalTheme}

-- the theme, the width to which texts are filled, and the distance of the tab stops, both in columns
pub record Handler : Type 0 where
  pub theme : GraphicalTheme
  pub width : ℕ
  pub tab : ℕ

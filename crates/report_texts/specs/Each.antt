-- The drawing of each report by itself.
use Rattle.oxc_handlers.specs.declared.theme.GraphicalTheme.{GraphicalTheme}
use Rattle.oxc_handlers.specs.Theme.{none_theme, unicode_theme}
use Rattle.girzohal_options.specs.declared.Asked.{Asked}
use Rattle.girzohal_options.specs.declared.ThemeChoice.{ThemeChoice}
use Rattle.girzohal_options.specs.declared.ThemeChoice.TheVariants.{Auto, Plain, Unicode, UnicodeNocolor}
use Rattle.report_texts.specs.Texts.{themed}
use Rattle.report_texts.specs.declared.look.Look.{Look}

-- styles stand in a page as classes, whatever a terminal shows
abbrev pub page_theme : ThemeChoice → GraphicalTheme
page_theme Auto = unicode_theme
page_theme Plain = none_theme
page_theme Unicode = unicode_theme
page_theme UnicodeNocolor = unicode_theme

abbrev pub page_look : Asked → Look
page_look asked = themed asked (page_theme asked.theme)

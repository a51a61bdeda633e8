-- What a run writes: the reports of a document drawn, or as JSON, or how much a drawing is.
use Rattle.std.specs.Prelude.{ℕ, ◌++◌, ◌==◌, List, length, count_by, Bool, false, if◌then◌else◌, codes, decimal}
use Rattle.oxc_handlers.specs.declared.theme.GraphicalTheme.{GraphicalTheme}
use Rattle.oxc_handlers.specs.Theme.{none_theme, unicode_theme, unicode_nocolor_theme}
use Rattle.render_files.specs.Rendered.{drawn_reports, json_lines}
use Rattle.documents.specs.Document.{Document}
use Rattle.report_run.specs.declared.words.ThemeName.{ThemeName}
use Rattle.report_run.specs.declared.words.ThemeName.TheVariants.{Plain, Unicode, UnicodeNocolor}

abbrev pub theme_of : ThemeName → GraphicalTheme
theme_of Plain = none_theme
theme_of Unicode = unicode_theme
theme_of UnicodeNocolor = unicode_nocolor_theme

-- a document as text: its reports drawn one after another, or each as JSON in a line of its own
abbrev pub shown : ThemeName → ℕ → ℕ → Bool → Document → List ℕ
shown theme width tabs json document =
    if json then json_lines document.files document.reports
    else drawn_reports (record { theme = theme_of theme; width = width; tab = tabs }) document.files document.reports

-- how much the plain drawing of a document is, 80 columns wide and with tab stops 4 columns apart
unfoldable pub measured : ℕ → Document → List ℕ
measured count document =
    let text = shown Plain 80 4 false document in
    decimal count ++ (codes " reports, " ++ (decimal (length text) ++ (codes " bytes, "
    ++ (decimal (count_by (λ byte. byte == 10) text) ++ codes " lines\n"))))

-- The drawing with the settings of all words.
use Rattle.std.proofs.Common.{rules, ◌≡◌, map, string_bytes, unwrap_or}
use Rattle.report_run.specs.Words.{settings}
use Rattle.report_run.specs.declared.words.ThemeName.TheVariants.{Plain}
use Rattle.report_run.proofs.WordLemmas.{drawing_is}
use Rattle.report_run.proofs.words.read_drawing.Goals as goal

pub returns-in-Some-clause-value : goal.returns-in-Some-clause-value
returns-in-Some-clause-value c =
    let it = c.in-Some.settings in
    let theme : c.unwrap_or.result ≡ unwrap_or it.theme Plain = search rules in
    let width : c.unwrap_or-in-Some.result ≡ unwrap_or it.width 80 = search rules in
    let tabs : c.unwrap_or-in-Some-2.result ≡ unwrap_or it.tabs 4 = search rules in
    rw (theme, width, tabs) (drawing_is (settings (map string_bytes c.args.words.now)) it c.in-Some.ensures)

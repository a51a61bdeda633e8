-- The page of reports.
use Rattle.std.specs.Prelude.{ℕ, List, map}
use Rattle.found_reports.specs.Kept.{FoundParts}
use Rattle.report_texts.specs.CiTexts.{findings_in}
use Rattle.html_pages.specs.Page.{IsPage}
use Rattle.report_texts.specs.Each.{page_look}
use Rattle.report_texts.specs.Texts.{drawing_of}
use Rattle.girzohal_options.specs.declared.Asked.{Asked}

-- the page of their findings, with the drawing of each
abbrev pub IsReportPage : Asked → FoundParts → List ℕ → Type 0
IsReportPage asked parts text = IsPage (findings_in asked.raw parts.found) (map (drawing_of (page_look asked) asked.raw) parts.found) text

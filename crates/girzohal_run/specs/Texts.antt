-- What is written of reports.
use Rattle.std.specs.Prelude.{◌≡◌, ℕ, List}
use Rattle.found_reports.specs.Kept.{FoundParts}
use Rattle.report_texts.specs.Texts.{IsDocumentText, IsSarifText, drawing_text, json_text, named_tool}
use Rattle.ci_formats.specs.declared.format.CiFormat.TheVariants as ci
use Rattle.report_texts.specs.CiTexts.{ci_text, findings_in, gitlab_text}
use Rattle.finding_summaries.specs.Markdown.{IsMarkdown}
use Rattle.finding_summaries.specs.Summary.{IsSummary}
use Rattle.girzohal_run.specs.Html.{IsReportPage}
use Rattle.girzohal_options.specs.declared.Asked.{Asked}
use Rattle.girzohal_options.specs.declared.OutputForm.{OutputForm}
use Rattle.girzohal_options.specs.declared.OutputForm.TheVariants.{Drawing, Json, Document, Sarif, Problems, Github, Gitlab, Checkstyle, Junit, Stylish, Summary, Markdown, Html}

-- what is written of reports and their files in a form
abbrev pub IsTextIn : OutputForm → Asked → FoundParts → List ℕ → Type 0
IsTextIn Drawing asked parts text = text ≡ drawing_text asked parts.found
IsTextIn Json asked parts text = text ≡ json_text asked.raw parts.found
IsTextIn Document asked parts text = IsDocumentText asked.raw parts text
IsTextIn Sarif asked parts text = IsSarifText asked parts text
IsTextIn Problems asked parts text = text ≡ ci_text ci.Problems asked.raw parts.found
IsTextIn Github asked parts text = text ≡ ci_text ci.Github asked.raw parts.found
IsTextIn Gitlab asked parts text = text ≡ gitlab_text (named_tool asked.tool) asked.raw parts.found
IsTextIn Checkstyle asked parts text = text ≡ ci_text ci.Checkstyle asked.raw parts.found
IsTextIn Junit asked parts text = text ≡ ci_text ci.Junit asked.raw parts.found
IsTextIn Stylish asked parts text = text ≡ ci_text ci.Stylish asked.raw parts.found
IsTextIn Summary asked parts text = IsSummary (findings_in asked.raw parts.found) text
IsTextIn Markdown asked parts text = IsMarkdown (findings_in asked.raw parts.found) text
IsTextIn Html asked parts text = IsReportPage asked parts text

-- what is written of reports, as it was asked for
abbrev pub IsText : Asked → FoundParts → List ℕ → Type 0
IsText asked parts text = IsTextIn asked.to asked parts text

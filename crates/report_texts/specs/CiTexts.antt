-- What is written of reports for CI systems.
use Rattle.std.specs.Prelude.{ℕ, List, Bool, Option, map}
use Rattle.harmless.specs.declared.Kind.TheVariants.{Prose, Name}
use Rattle.found_reports.specs.Found.{Found}
use Rattle.shown_reports.specs.Shown.{shown_if, shown_text}
use Rattle.ci_formats.specs.Finding.{FindingParts, finding_of}
use Rattle.ci_formats.specs.Format.{text_in}
use Rattle.ci_formats.specs.Gitlab.{gitlab_of}
use Rattle.ci_formats.specs.declared.format.CiFormat.{CiFormat}

-- a finding whose texts can't drive a terminal, unless they are to stay as they are
unfoldable pub shown_finding : Bool → FindingParts → FindingParts
shown_finding raw it = record it { name = shown_text raw Name it.name; code = shown_if raw Name it.code; message = shown_text raw Prose it.message }

-- the findings of reports, with such texts
abbrev pub findings_in : Bool → List Found → List FindingParts
findings_in raw found = map (shown_finding raw) (map finding_of found)

-- the findings of reports, in a format
unfoldable pub ci_text : CiFormat → Bool → List Found → List ℕ
ci_text format raw found = text_in format (findings_in raw found)

-- the findings of reports for GitLab, and the tool that found them: the check of a finding without a code
unfoldable pub gitlab_text : Option (List ℕ) → Bool → List Found → List ℕ
gitlab_text tool raw found = gitlab_of (shown_if raw Name tool) (findings_in raw found)

-- The text of findings in each format.
use Rattle.std.specs.Prelude.{ℕ, List, None}
use Rattle.ci_formats.specs.Finding.{FindingParts}
use Rattle.ci_formats.specs.Annotation.{text_of}
use Rattle.ci_formats.specs.declared.format.CiFormat.{CiFormat}
use Rattle.ci_formats.specs.declared.format.CiFormat.TheVariants.{Github, Gitlab, Checkstyle, Junit, Stylish, Problems}
use Rattle.ci_formats.specs.Checkstyle.{checkstyle_of}
use Rattle.ci_formats.specs.Gitlab.{gitlab_of}
use Rattle.ci_formats.specs.Junit.{junit_of}
use Rattle.ci_formats.specs.Problems.{problems_of}
use Rattle.ci_formats.specs.Stylish.{stylish_of}

-- no tool is named
abbrev pub text_in : CiFormat → List FindingParts → List ℕ
text_in Github findings = text_of findings
text_in Gitlab findings = gitlab_of None findings
text_in Checkstyle findings = checkstyle_of findings
text_in Junit findings = junit_of findings
text_in Stylish findings = stylish_of findings
text_in Problems findings = problems_of findings

-- There is one text.
use Rattle.std.specs.Prelude.{◌≡◌, ℕ, List}
use Rattle.ci_formats.specs.Finding.{FindingParts}
use Rattle.finding_summaries.specs.Markdown.{IsMarkdown}
use Rattle.finding_summaries.specs.Ranking.{IsRanking, Ranked}
use Rattle.finding_summaries.specs.Summary.{IsSummary}

-- two rankings of the same names are equal
abbrev pub HaveOneRanking : Type 0
HaveOneRanking = (names : List (List ℕ)) (a b : List Ranked) → IsRanking names a → IsRanking names b → a ≡ b

-- two summaries of the same findings are equal
abbrev pub HaveOneSummary : Type 0
HaveOneSummary = (findings : List FindingParts) (a b : List ℕ) → IsSummary findings a → IsSummary findings b → a ≡ b

-- and so are two texts in Markdown
abbrev pub HaveOneMarkdown : Type 0
HaveOneMarkdown = (findings : List FindingParts) (a b : List ℕ) → IsMarkdown findings a → IsMarkdown findings b → a ≡ b

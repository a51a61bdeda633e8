-- A summary for a terminal or a log.
use Rattle.std.specs.Prelude.{◌≡◌, ℕ, ◌-◌, max, List, [], ◌∷◌, ◌++◌, fold, length, map, codes, decimal, replicate}
use Rattle.std.specs.List.{flat_map}
use Rattle.ci_formats.specs.Finding.{FindingParts}
use Rattle.finding_summaries.specs.Names.{file_of, rule_of}
use Rattle.finding_summaries.specs.Ranking.{IsRanking, Ranked}
use Rattle.finding_summaries.specs.Totals.{totals}

unfoldable pub blanks : ℕ → List ℕ
blanks count = replicate count 0x20

-- the digits of the widest number
unfoldable pub widest : List Ranked → ℕ
widest rows = fold (λ most row. max most (length (decimal row.count))) 0 rows

-- a number, right-aligned, and a name
unfoldable pub line_text : ℕ → Ranked → List ℕ
line_text width row = codes "  " ++ (blanks (width - length (decimal row.count)) ++ decimal row.count) ++ codes "  " ++ row.name ++ codes "\n"

-- an empty line, a title, and the rows
unfoldable pub section_text : List ℕ → List Ranked → List ℕ
section_text title rows = codes "\n" ++ title ++ codes "\n" ++ flat_map (line_text (widest rows)) rows

-- the summary of findings of which these are the files and the rules
abbrev pub summary_of : List FindingParts → List Ranked → List Ranked → List ℕ
summary_of [] files rules = codes "no findings\n"
summary_of (f ∷ rest) files rules = totals (f ∷ rest) ++ section_text (codes "By file") files ++ section_text (codes "By rule") rules

-- a text is the summary of findings, with their files and rules ranked
pub record IsSummary (findings : List FindingParts) (text : List ℕ) : Type 0 where
  pub files : List Ranked
  pub rules : List Ranked
  pub files_ranked : IsRanking (map file_of findings) files
  pub rules_ranked : IsRanking (map rule_of findings) rules
  pub written : text ≡ summary_of findings files rules

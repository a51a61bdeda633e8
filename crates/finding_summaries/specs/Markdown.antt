-- A summary as tables of GitHub's Markdown.
use Rattle.std.specs.Prelude.{◌≡◌, ℕ, ◌-◌, nat_le, if◌then◌else◌, List, [], ◌∷◌, ◌++◌, length, map, take, codes, decimal}
use Rattle.std.specs.List.{flat_map, sum_by}
use Rattle.ci_formats.specs.Finding.{FindingParts}
use Rattle.finding_summaries.specs.Cells.{cell}
use Rattle.finding_summaries.specs.Names.{file_of, rule_of}
use Rattle.finding_summaries.specs.Ranking.{IsRanking, Ranked}
use Rattle.finding_summaries.specs.Totals.{totals}

unfoldable pub row_text : Ranked → List ℕ
row_text row = codes "| " ++ decimal row.count ++ codes " | " ++ cell row.name ++ codes " |\n"

-- that there are more rows, and how many findings they have
unfoldable pub more_row : ℕ → ℕ → List ℕ
more_row count findings = codes "| | *and " ++ decimal count ++ codes " more with " ++ decimal findings ++ codes "* |\n"

-- how many of all findings these rows don't count
abbrev pub left_out : ℕ → List Ranked → ℕ
left_out all shown = all - sum_by (λ row. row.count) shown

-- the first 50 rows, and one for the others
unfoldable pub rows_text : ℕ → List Ranked → List ℕ
rows_text all rows =
    if nat_le (length rows) 50 then flat_map row_text rows else flat_map row_text (take 50 rows) ++ more_row (length rows - 50) (left_out all (take 50 rows))

-- the empty line before a table, and its first cell
unfoldable pub head_start : List ℕ
head_start = codes "\n| Findings | "

-- the end of a table's first row, and the row below it, which aligns the columns
unfoldable pub head_end : List ℕ
head_end = codes " |\n| ---: | :--- |\n"

-- the head of a table
unfoldable pub table_head : List ℕ → List ℕ
table_head head = head_start ++ head ++ head_end

abbrev pub table_text : List ℕ → ℕ → List Ranked → List ℕ
table_text head all rows = table_head head ++ rows_text all rows

-- the tables of findings of which these are the files and the rules
abbrev pub markdown_of : List FindingParts → List Ranked → List Ranked → List ℕ
markdown_of [] files rules = codes "no findings\n"
markdown_of (f ∷ rest) files rules = totals (f ∷ rest) ++ table_text (codes "File") (length (f ∷ rest)) files ++ table_text (codes "Rule") (length (f ∷ rest)) rules

-- a text is the Markdown of findings, with their files and rules ranked
pub record IsMarkdown (findings : List FindingParts) (text : List ℕ) : Type 0 where
  pub files : List Ranked
  pub rules : List Ranked
  pub files_ranked : IsRanking (map file_of findings) files
  pub rules_ranked : IsRanking (map rule_of findings) rules
  pub written : text ≡ markdown_of findings files rules

-- The page.
use Rattle.std.specs.Prelude.{◌≡◌, ℕ, List, [], ◌∷◌, ◌++◌, None, codes}
use Rattle.ci_formats.specs.Finding.{FindingParts}
use Rattle.finding_summaries.specs.Totals.{totals}
use Rattle.html_pages.specs.Groups.{groups_from}
use Rattle.html_pages.specs.Spots.{AreSpots, SpotParts}
use Rattle.html_pages.specs.declared.spots.Part.TheVariants.{Files, Rules}

-- what stands before the title
unfoldable pub page_start : List ℕ
page_start =
    codes "<!DOCTYPE html>\n<html lang=\"en\">\n<head>\n<meta charset=\"utf-8\">\n<meta name=\"viewport\" content=\"width=device-width, initial-scale=1\">\n<title>"

-- a class for each style of a drawing, in light and dark colors
unfoldable pub style_sheet : List ℕ
style_sheet =
    codes ":root{color-scheme:light dark;--text:#1f2328;--back:#fff;--box:#f6f8fa;--edge:#d0d7de;--error:#b3261e;--warning:#7d5200;--info:#1b5f86;--link:#0b57d0;--row:#636c76;--first:#a3119f;--second:#00697a;--third:#1f7a1f}\n@media (prefers-color-scheme:dark){:root{--text:#e6edf3;--back:#0d1117;--box:#161b22;--edge:#30363d;--error:#ff7b72;--warning:#f4bf75;--info:#7fb8d0;--link:#79b0ff;--row:#8b949e;--first:#f657f8;--second:#1ec9d4;--third:#91f66f}}\nbody{margin:2rem auto;max-width:72rem;padding:0 1rem;background:var(--back);color:var(--text);font:1rem/1.5 system-ui,sans-serif}\na{color:var(--link)}\nsummary{cursor:pointer;font-weight:600;overflow-wrap:anywhere}\nli{overflow-wrap:anywhere}\npre{margin:.75rem 0;padding:.75rem 1rem;overflow-x:auto;background:var(--box);border:1px solid var(--edge);border-radius:6px;font:.85rem/1.2 ui-monospace,monospace}\npre:target{border-color:var(--link)}\n.error{color:var(--error);font-weight:700}\n.warning{color:var(--warning);font-weight:700}\n.info{color:var(--info)}\n.link{color:var(--link);font-weight:700}\n.row{color:var(--row)}\n.first{color:var(--first)}\n.second{color:var(--second)}\n.third{color:var(--third)}\n"

-- what stands after the title
unfoldable pub title_end : List ℕ
title_end = codes "</title>\n<style>\n"

-- what stands after the style sheet
unfoldable pub head_end : List ℕ
head_end = codes "</style>\n</head>\n<body>\n<h1>"

-- the heading of the findings by severity and rule
unfoldable pub rules_title : List ℕ
rules_title = codes "<h2>By severity and rule</h2>\n"

-- the heading of the findings by file
unfoldable pub files_title : List ℕ
files_title = codes "<h2>By file</h2>\n"

-- the end of the page
unfoldable pub page_end : List ℕ
page_end = codes "</body>\n</html>\n"

-- the totals
abbrev pub headline : List FindingParts → List ℕ
headline [] = codes "no findings\n"
headline (f ∷ rest) = totals (f ∷ rest)

-- the findings by severity and rule, and by file
unfoldable pub parts_text : List FindingParts → List (List ℕ) → List SpotParts → List SpotParts → List ℕ
parts_text findings drawings rules files =
    rules_title ++ groups_from Rules findings drawings None rules ++ files_title ++ groups_from Files findings drawings None files

-- if there are any
abbrev pub sections_text : List FindingParts → List (List ℕ) → List SpotParts → List SpotParts → List ℕ
sections_text [] drawings rules files = []
sections_text (f ∷ rest) drawings rules files = parts_text (f ∷ rest) drawings rules files

-- what stands before the first heading
unfoldable pub page_head : List FindingParts → List ℕ
page_head findings = page_start ++ headline findings ++ title_end ++ style_sheet ++ head_end

-- the page of findings in these orders
unfoldable pub page_of : List FindingParts → List (List ℕ) → List SpotParts → List SpotParts → List ℕ
page_of findings drawings rules files = page_head findings ++ headline findings ++ codes "</h1>\n" ++ sections_text findings drawings rules files ++ page_end

-- a text is the page of findings with their drawings
pub record IsPage (findings : List FindingParts) (drawings : List (List ℕ)) (page : List ℕ) : Type 0 where
  pub rules : List SpotParts
  pub files : List SpotParts
  pub by_rule : AreSpots Rules findings rules
  pub by_file : AreSpots Files findings files
  pub written : page ≡ page_of findings drawings rules files

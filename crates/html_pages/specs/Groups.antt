-- Findings below their headings.
use Rattle.std.specs.Prelude.{ℕ, ◌==◌, ◌&&◌, if◌then◌else◌, Bool, false, List, [], ◌∷◌, ◌++◌, slice_get, Option, Some, None, codes, decimal}
use Rattle.std.specs.List.{prefix_len}
use Rattle.std.specs.Str.{bytes_eq}
use Rattle.ci_formats.specs.Finding.{FindingParts}
use Rattle.ci_formats.specs.declared.finding.Location.{Location}
use Rattle.finding_summaries.specs.Names.{file_of}
use Rattle.html_pages.specs.Escaped.{escaped_text}
use Rattle.html_pages.specs.Spans.{spans_text}
use Rattle.html_pages.specs.Spots.{SpotParts}
use Rattle.html_pages.specs.declared.spots.Part.{Part}
use Rattle.html_pages.specs.declared.spots.Part.TheVariants.{Files, Rules}

-- ---- one finding

unfoldable pub number_text : ℕ → List ℕ
number_text number = codes ":" ++ decimal number

-- a column stands only after a row
abbrev pub numbers_text : Option ℕ → Option ℕ → List ℕ
numbers_text None column = []
numbers_text (Some row) None = number_text row
numbers_text (Some row) (Some column) = number_text row ++ number_text column

abbrev pub location_text : Location → List ℕ
location_text at = numbers_text at.row at.column

-- its file and its location
unfoldable pub place_text : FindingParts → List ℕ
place_text f = escaped_text (file_of f) ++ location_text f.start

unfoldable pub link_open : List ℕ
link_open = codes "<li><a href=\"#f"

unfoldable pub link_start : ℕ → List ℕ
link_start at = link_open ++ decimal at ++ codes "\">"

-- the link to a drawing, by the finding's place in the list
unfoldable pub link_text : ℕ → FindingParts → List ℕ
link_text at f = link_start at ++ place_text f ++ codes "</a> " ++ escaped_text f.message ++ codes "</li>\n"

-- the drawing; a reader of HTML drops the LF behind the tag
unfoldable pub drawing_text : ℕ → List ℕ → List ℕ
drawing_text at drawing = codes "<pre id=\"f" ++ decimal at ++ codes "\">\n" ++ spans_text drawing ++ codes "</pre>\n"

abbrev pub link_if : ℕ → Option FindingParts → List ℕ
link_if at None = []
link_if at (Some f) = link_text at f

abbrev pub drawing_if : ℕ → Option (List ℕ) → List ℕ
drawing_if at None = []
drawing_if at (Some drawing) = drawing_text at drawing

-- what stands at a place: the link, or the drawing
abbrev pub item_text : Part → List FindingParts → List (List ℕ) → ℕ → List ℕ
item_text Rules findings drawings at = link_if at (slice_get findings at)
item_text Files findings drawings at = drawing_if at (slice_get drawings at)

-- ---- a group

abbrev pub group_start : Part → List ℕ
group_start Rules = codes "<details>\n<summary>"
group_start Files = codes "<details open>\n<summary>"

abbrev pub rank_word : ℕ → List ℕ
rank_word rank =
    if rank == 0 then codes "<span class=\"error\">error</span> " else if rank == 1 then codes "<span class=\"warning\">warning</span> " else codes "<span class=\"info\">note</span> "

abbrev pub rank_text : Part → ℕ → List ℕ
rank_text Files rank = []
rank_text Rules rank = rank_word rank

abbrev pub list_start : Part → List ℕ
list_start Rules = codes ")</summary>\n<ul>\n"
list_start Files = codes ")</summary>\n"

abbrev pub group_end : Part → List ℕ
group_end Rules = codes "</ul>\n</details>\n"
group_end Files = codes "</details>\n"

-- what all its findings have in common
unfoldable pub heading_name : Part → SpotParts → List ℕ
heading_name part spot = group_start part ++ rank_text part spot.rank ++ escaped_text spot.name

-- and how many there are
unfoldable pub heading : Part → SpotParts → ℕ → List ℕ
heading part spot count = heading_name part spot ++ codes " (" ++ decimal count ++ list_start part

-- ---- all groups

abbrev pub same_group : SpotParts → SpotParts → Bool
same_group a b = (a.rank == b.rank) && bytes_eq a.name b.name

abbrev pub goes_on : Option SpotParts → SpotParts → Bool
goes_on None spot = false
goes_on (Some before) spot = same_group before spot

abbrev pub end_after : Part → Option SpotParts → List ℕ
end_after part None = []
end_after part (Some before) = group_end part

-- where a group begins, the one before it ends
abbrev pub heading_after : Part → Option SpotParts → SpotParts → ℕ → List ℕ
heading_after part before spot count = if goes_on before spot then [] else end_after part before ++ heading part spot count

-- spots with what stands at their places, below a heading where they begin a group
abbrev pub groups_from : Part → List FindingParts → List (List ℕ) → Option SpotParts → List SpotParts → List ℕ
groups_from part findings drawings before [] = end_after part before
groups_from part findings drawings before (spot ∷ rest) =
    heading_after part before spot (prefix_len (same_group spot) (spot ∷ rest)) ++ (item_text part findings drawings spot.at ++ groups_from part findings drawings (Some spot) rest)

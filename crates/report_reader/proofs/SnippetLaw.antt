-- The lines of a snippet without gutter, drawn under the plain theme, are the lines that are shown of what is seen in it.
use Rattle.std.proofs.Common.{◌≡◌, ℕ, ◌+◌, ◌-◌, true, false, List, [], ◌∷◌, ◌++◌, length, map, decimal, encode_utf8, nat_le, Option, Some, None, if◌then◌else◌, refl, sym, ap, ◌∙◌, zero, suc}
use Rattle.std.specs.List.{flat_map, slice_get}
use Rattle.std.specs.Option.{option_map_or}
use Rattle.std.proofs.lemmas.List.{append_assoc, append-nil, length-map}
use Rattle.oxc_plan.specs.Plan.{Ordered, RowPlanView, SnippetView}
use Rattle.oxc_handlers.specs.Cells.{repeated}
use Rattle.oxc_handlers.specs.RowLines as drawn
use Rattle.oxc_handlers.specs.Snippet as snippets
use Rattle.oxc_handlers.specs.Theme.{none_theme}
use Rattle.report_reader.specs.Seen.{Row, Head, bare, dashes}
use Rattle.report_reader.specs.Shown as seen
use Rattle.report_reader.specs.Shown.{spaces, ended}
use Rattle.report_reader.proofs.ShownLemmas.{ended_append}
use Rattle.report_reader.specs.SeenOf.{seen_row, seen_head}
use Rattle.report_reader.proofs.RowWords.{plain_setting, AreReadableRows, IsSnippetShown}
use Rattle.report_reader.proofs.PlainTheme.{repeated_is, styled_plain}
use Rattle.report_reader.proofs.RowLaw.{row_shown}

get_seen : (tab : ℕ) (labels : List Ordered) (rows : List RowPlanView) (i : ℕ) → option_map_or (λ r. length (decimal r.number)) (slice_get (map (seen_row tab labels) rows) i) 1 ≡ option_map_or (λ r. length (decimal r.row.number)) (slice_get rows i) 1
get_seen tab labels [] i = refl
get_seen tab labels (row ∷ rows) zero = refl
get_seen tab labels (row ∷ rows) (suc i) = get_seen tab labels rows i

width_is : (tab : ℕ) (labels : List Ordered) (rows : List RowPlanView) → snippets.number_width rows ≡ seen.number_width (map (seen_row tab labels) rows)
unfolding snippets.number_width
width_is tab labels rows = sym (ap (λ n. option_map_or (λ r. length (decimal r.number)) (slice_get (map (seen_row tab labels) rows) (n - 1)) 1) (length-map rows (seen_row tab labels)) ∙ get_seen tab labels rows (length rows - 1))

rows_are : (tab : ℕ) (labels : List Ordered) (digits : ℕ) (rows : List RowPlanView) → AreReadableRows labels rows
    → flat_map (drawn.row_lines (plain_setting tab labels digits)) rows ≡ ended (flat_map (seen.row_lines digits) (map (seen_row tab labels) rows))
rows_are tab labels digits [] readable = refl
rows_are tab labels digits (row ∷ more) readable =
    ap (λ l. l ++ flat_map (drawn.row_lines (plain_setting tab labels digits)) more) (row_shown tab labels digits row readable.0)
    ∙ ap (λ l. ended (seen.row_lines digits (seen_row tab labels row)) ++ l) (rows_are tab labels digits more readable.1)
    ∙ sym (ended_append (seen.row_lines digits (seen_row tab labels row)) (flat_map (seen.row_lines digits) (map (seen_row tab labels) more)))

numbers_glued : (line column : List ℕ) → ((line ++ 0x3A ∷ []) ++ column) ++ 0x5D ∷ [] ≡ line ++ (0x3A ∷ (column ++ 0x5D ∷ []))
numbers_glued line column = append_assoc (line ++ 0x3A ∷ []) column (0x5D ∷ []) ∙ append_assoc line (0x3A ∷ []) (column ++ 0x5D ∷ [])

glued : (name line column : List ℕ) → ((((0x5B ∷ []) ++ name) ++ 0x3A ∷ []) ++ ((line ++ 0x3A ∷ []) ++ column)) ++ 0x5D ∷ [] ≡ 0x5B ∷ (name ++ (0x3A ∷ (line ++ (0x3A ∷ (column ++ 0x5D ∷ [])))))
glued name line column =
    let first : List ℕ = (0x5B ∷ name) ++ 0x3A ∷ [] in
    append_assoc first ((line ++ 0x3A ∷ []) ++ column) (0x5D ∷ [])
    ∙ ap (λ l. first ++ l) (numbers_glued line column)
    ∙ append_assoc (0x5B ∷ name) (0x3A ∷ []) (line ++ (0x3A ∷ (column ++ 0x5D ∷ [])))

place_is : (tab : ℕ) (labels : List Ordered) (digits : ℕ) (snippet : SnippetView) (name : Option (List ℕ))
    → snippets.head_text (plain_setting tab labels digits) snippet name ≡ seen.head_text (seen_head name snippet.head_line snippet.head_column (length snippet.rows))
unfolding snippets.head_text snippets.location seen.head_text repeated lib.Utf8.encode
place_is tab labels digits snippet (Some name) =
    let line : List ℕ = decimal snippet.head_line in
    let column : List ℕ = decimal snippet.head_column in
    ap (λ n. ((((0x5B ∷ []) ++ n) ++ 0x3A ∷ []) ++ ((line ++ 0x3A ∷ []) ++ column)) ++ 0x5D ∷ []) (styled_plain name) ∙ glued name line column
place_is tab labels digits snippet None =
    elim (nat_le 2 (length snippet.rows)) as (λ v. (if v then (0x5B ∷ []) ++ (decimal snippet.head_line ++ (0x3A ∷ []) ++ decimal snippet.head_column) ++ 0x5D ∷ [] else 0x2D ∷ 0x2D ∷ 0x2D ∷ []) ≡ seen.head_text (if v then bare snippet.head_line snippet.head_column else dashes)) [
      | true ↦ ap (λ l. 0x5B ∷ l) (numbers_glued (decimal snippet.head_line) (decimal snippet.head_column))
      | false ↦ refl
    ]

head_is : (tab : ℕ) (labels : List Ordered) (digits : ℕ) (snippet : SnippetView) (name : Option (List ℕ))
    → snippets.head (plain_setting tab labels digits) snippet name ≡ seen.head_line digits (seen_head name snippet.head_line snippet.head_column (length snippet.rows)) ++ 0x0A ∷ []
unfolding snippets.head seen.head_line lib.Utf8.encode
head_is tab labels digits snippet name = rw (place_is tab labels digits snippet name, repeated_is (digits + 2) 0x20) (simp append_assoc refl)

close_is : (tab : ℕ) (labels : List Ordered) (digits : ℕ) → snippets.close (plain_setting tab labels digits) ≡ seen.close_line digits ++ 0x0A ∷ []
unfolding snippets.close seen.close_line repeated lib.Utf8.encode
close_is tab labels digits = ap (λ l. ((l ++ 0x60 ∷ []) ++ (0x2D ∷ 0x2D ∷ 0x2D ∷ 0x2D ∷ [])) ++ 0x0A ∷ []) (repeated_is (digits + 2) 0x20) ∙ simp append_assoc refl

whole : (digits : ℕ) (head : Head) (rows : List Row) → ((seen.head_line digits head ++ 0x0A ∷ []) ++ ended (flat_map (seen.row_lines digits) rows)) ++ (seen.close_line digits ++ 0x0A ∷ [])
    ≡ ended (seen.snippet_lines_by digits (record { head = head; rows = rows }))
whole digits head rows =
    append_assoc (seen.head_line digits head ++ 0x0A ∷ []) (ended (flat_map (seen.row_lines digits) rows)) (seen.close_line digits ++ 0x0A ∷ [])
    ∙ ap (λ l. (seen.head_line digits head ++ 0x0A ∷ []) ++ l)
    (sym (ended_append (flat_map (seen.row_lines digits) rows) (seen.close_line digits ∷ []) ∙ ap (λ l. ended (flat_map (seen.row_lines digits) rows) ++ l) (append-nil (seen.close_line digits ++ 0x0A ∷ []))))

pub snippet_shown : (tab : ℕ) (labels : List Ordered) (name : Option (List ℕ)) (snippet : SnippetView) → IsSnippetShown tab labels name snippet
unfolding snippets.drawn_snippet seen.snippet_lines
snippet_shown tab labels name snippet = λ none readable.
    let digits : ℕ = snippets.number_width snippet.rows in
    let head : Head = seen_head name snippet.head_line snippet.head_column (length snippet.rows) in
    let rows : List Row = map (seen_row tab labels) snippet.rows in
    ap (λ g. snippets.drawn_by (record { theme = none_theme; labels = labels; tab = tab; gutter = g; digits = digits }) name snippet) none
    ∙ rw (head_is tab labels digits snippet name, rows_are tab labels digits snippet.rows readable, close_is tab labels digits) (whole digits head rows)
    ∙ ap (λ d. ended (seen.snippet_lines_by d (record { head = head; rows = rows }))) (width_is tab labels snippet.rows)

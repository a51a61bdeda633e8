-- What is seen in a snippet is well formed.
use Rattle.std.proofs.Common.{◌≡◌, ℕ, ◌+◌, ◌<◌, ◌≤◌, ◌^◌, ◌==◌, nat_lt, nat_le, Bool, true, false, not, ◌&&◌, ◌||◌, List, [], ◌∷◌, length, map, Option, Some, None, IfSome, is_some, if◌then◌else◌, refl, ap, ◌∙◌, arith}
use Rattle.std.proofs.lemmas.List.{length-map}
use Rattle.std.proofs.lemmas.Bool.Decides.{nat_tests}
use Rattle.oxc_plan.specs.declared.marks.MarkCells.{MarkCells}
use Rattle.oxc_plan.specs.Plan.{Ordered, RowPlanView, SnippetView}
use Rattle.oxc_handlers.specs.Setting.{text_at, is_empty_at}
use Rattle.report_reader.specs.Seen.{bare, dashes}
use Rattle.report_reader.specs.WellFormed.{is_line, is_line_of, is_behind, is_mark, is_next_mark, are_marks, is_next_row, are_rows, is_head, is_snippet}
use Rattle.report_reader.proofs.BytesLemmas.{both}
use Rattle.report_reader.proofs.RunsLemmas.{least_of}
use Rattle.report_reader.specs.SeenOf.{seen_mark, seen_row, seen_head}
use Rattle.report_reader.proofs.RowWords.{IsApart, AreApart, AreReadableRows, IsSized, AreSized, AreRowsFrom, IsSeenWell}
use Rattle.oxc_handlers.proofs.ShownBytes.{shown_passes}
use Rattle.std.proofs.lemmas.Bool.{lt-ltb as less_test, le-leb as most_test}

behind : (before : Option ℕ) (start : ℕ) → least_of before ≤ start → is_behind before start ≡ true
behind None start le = refl
behind (Some end) start le = less_test end start (omega (arith, le))

line_of : (text : Option (List ℕ)) → IfSome text (λ line. is_line line ≡ true) → is_line_of text ≡ true
line_of None is = refl
line_of (Some text) is = is

arrow_well : (empty text one : Bool) → (empty ≡ true → one ≡ true) → (not (empty && text) || (text && one)) ≡ true
arrow_well false text one is = refl
arrow_well true false one is = refl
arrow_well true true one is = is refl

one_cell : (start end : ℕ) → end ≡ start + 1 → (end == start + 1) ≡ true
one_cell start end is = grind (arith, nat_tests)

mark_well : (labels : List Ordered) (before : Option ℕ) (m : MarkCells) (more : List MarkCells) → IsApart labels (least_of before) m more → IsSized labels m → is_next_mark before (seen_mark labels m) ≡ true
unfolding is_next_mark is_mark
mark_well labels before m more mark sized =
    both _ _ (behind before m.start mark.start)
    (both _ _
    (both _ _ (both _ _ (less_test m.start m.end mark.end) (line_of (text_at labels m.label) mark.text))
    (arrow_well (is_empty_at labels m.label) (is_some (text_at labels m.label)) (m.end == m.start + 1) (λ empty. one_cell m.start m.end (sized.empty empty))))
    (less_test (m.start + m.end) (2 ^ 64) sized.sum))

marks_well : (labels : List Ordered) (before : Option ℕ) (marks : List MarkCells) → AreApart labels (least_of before) marks → AreSized labels marks → are_marks before (map (seen_mark labels) marks) ≡ true
unfolding are_marks
marks_well labels before [] apart sized = refl
marks_well labels before (m ∷ more) (mark, apart) (size, sized) =
    both _ _ (mark_well labels before m more mark size) (marks_well labels (Some m.end) more apart sized)

rows_well : (tab : ℕ) (labels : List Ordered) (least : ℕ) (rows : List RowPlanView) → AreReadableRows labels rows → AreRowsFrom labels least rows → are_rows least (map (seen_row tab labels) rows) ≡ true
unfolding are_rows is_next_row
rows_well tab labels least [] readable from = refl
rows_well tab labels least (row ∷ more) (readable, others) (from, later) =
    both _ _
    (both _ _ (both _ _ (most_test least row.row.number from.number) (shown_passes (λ b. not (b == 0x0A)) refl tab row.row.text from.utf8 from.text)) (marks_well labels None row.marks readable.marks from.marks))
    (rows_well tab labels row.row.number more others later)

head_by_rows : (rows line column : ℕ) (two : Bool) → nat_le 2 rows ≡ two → 1 ≤ line → 1 ≤ column → is_head (if two then bare line column else dashes) rows ≡ true
unfolding is_head
head_by_rows rows line column true is some more = both _ _ (both _ _ (most_test 1 line some) (most_test 1 column more)) is
head_by_rows rows line column false is some more = most_test rows 1 (grind (arith, nat_tests))

head_well : (name : Option (List ℕ)) (line column rows : ℕ) → 1 ≤ line → 1 ≤ column → IfSome name (λ name. is_line name ≡ true) → is_head (seen_head name line column rows) rows ≡ true
unfolding is_head
head_well (Some name) line column rows some more is = both _ _ (both _ _ is (most_test 1 line some)) (most_test 1 column more)
head_well None line column rows some more is = head_by_rows rows line column (nat_le 2 rows) refl some more

pub snippet_well : (tab : ℕ) (labels : List Ordered) (name : Option (List ℕ)) (snippet : SnippetView) → IsSeenWell tab labels name snippet
unfolding is_snippet
snippet_well tab labels name snippet = λ line column lines readable from.
    both _ _
    (ap (is_head (seen_head name snippet.head_line snippet.head_column (length snippet.rows))) (length-map snippet.rows (seen_row tab labels))
    ∙ head_well name snippet.head_line snippet.head_column (length snippet.rows) line column lines)
    (rows_well tab labels 0 snippet.rows readable from)

-- No line of a report holds an LF, so the report is cut into its lines.
use Rattle.std.proofs.Common.{◌≡◌, ℕ, ◌+◌, ◌-◌, ◌<◌, ◌^◌, ◌==◌, Bool, true, false, not, List, [], ◌∷◌, ◌++◌, codes, decimal, length, reverse, Option, Some, None, inl, if◌then◌else◌, refl, ap, ◌∙◌, arith}
use Rattle.std.specs.List.{flat_map, list_all, slice_split}
use Rattle.std.proofs.lemmas.List.{append_assoc, reverse-append}
use Rattle.oxc_protocol.specs.declared.protocol.Severity.{Severity}
use Rattle.oxc_protocol.specs.declared.protocol.Severity.TheVariants.{Error, Warning, Advice}
use Rattle.report_reader.specs.Seen.{Mark, Row, Head, named, bare, dashes, Snippet}
use Rattle.report_reader.specs.Shown.{spaces, carets, bar_of, marker, mark_body, mark_cells, bars_to, hang_line, hang_of, hangs_from, marks_lines, row_front, other_front, unders, row_lines, head_text, head_line, close_line, number_width, snippet_lines, title_line, ended}
use Rattle.report_reader.specs.WellFormed.{is_line, is_line_of, are_marks, is_next_row, are_rows, is_head, is_snippet, HasHeadSizes, HasRowSizes, HasSizes}
use Rattle.numerals.proofs.NumeralLemmas.{decimal_digits}
use Rattle.report_reader.proofs.BytesLemmas.{all_append, not_eq, both, both_first, both_last, has_no-append, has_no-replicate, digits_have_no}
use Rattle.report_reader.proofs.RunsLemmas.{AreApart, marks_apart}
use Rattle.report_reader.proofs.HangsLemmas.{bars_have_no}

abbrev pub are_lines : List (List ℕ) → Bool
are_lines lines = list_all is_line lines

all_reverse : (p : List ℕ → Bool) (xs : List (List ℕ)) → list_all p xs ≡ true → list_all p (reverse xs) ≡ true
all_reverse p [] are = refl
all_reverse p (x ∷ xs) are =
    rw (reverse-append (x ∷ []) xs) (all_append p (reverse xs) (x ∷ []) (all_reverse p xs (both_last _ _ are)) (both _ _ (both_first _ _ are) refl))

all_flat_map : {X : Type 0} (p : List ℕ → Bool) (F : X → List (List ℕ)) (xs : List X) → ((x : X) → list_all p (F x) ≡ true) → list_all p (flat_map F xs) ≡ true
all_flat_map p F [] are = refl
all_flat_map p F (x ∷ xs) are = all_append p (F x) (flat_map F xs) (are x) (all_flat_map p F xs are)

line_append : (xs ys : List ℕ) → is_line xs ≡ true → is_line ys ≡ true → is_line (xs ++ ys) ≡ true
line_append xs ys first last = has_no-append 0x0A xs ys first last

spaces_line : (n : ℕ) → is_line (spaces n) ≡ true
spaces_line n = has_no-replicate 0x0A n 0x20 refl

carets_line : (n : ℕ) → is_line (carets n) ≡ true
carets_line n = has_no-replicate 0x0A n 0x5E refl

decimal_line : (n : ℕ) → n < 2 ^ 64 → is_line (decimal n) ≡ true
decimal_line n small = digits_have_no 0x0A (decimal n) (inl (omega arith)) (decimal_digits n small)

marker_line : (bar : Bool) (cells : List ℕ) → is_line cells ≡ true → is_line ((if bar then 0x7C else 0x5E) ∷ cells) ≡ true
marker_line true cells is = is
marker_line false cells is = is

body_line : (m : Mark) → is_line (mark_body m) ≡ true
unfolding mark_body
body_line m = line_append (carets (bar_of m - m.start)) (marker m ∷ carets (m.end - bar_of m - 1)) (carets_line (bar_of m - m.start)) (marker_line _ (carets (m.end - bar_of m - 1)) (carets_line (m.end - bar_of m - 1)))

mark_cells_line : (from : ℕ) (marks : List Mark) → is_line (mark_cells from marks) ≡ true
unfolding mark_cells
mark_cells_line from [] = refl
mark_cells_line from (m ∷ more) =
    line_append (spaces (m.start - from)) (mark_body m ++ mark_cells m.end more) (spaces_line (m.start - from)) (line_append (mark_body m) (mark_cells m.end more) (body_line m) (mark_cells_line m.end more))

hang_lines : (earlier : List Mark) (bar : ℕ) (text : Option (List ℕ)) (more : List (List ℕ)) → is_line_of text ≡ true → are_lines more ≡ true → are_lines (hang_of earlier bar text ++ more) ≡ true
unfolding hang_line
hang_lines earlier bar None more is are = are
hang_lines earlier bar (Some text) more is are =
    both _ _ (line_append (bars_to None bar earlier) (codes "`-- " ++ text) (bars_have_no 0x0A None bar earlier refl refl) is) are

hangs_lines : (least : ℕ) (earlier marks : List Mark) → AreApart least marks → are_lines (hangs_from earlier marks) ≡ true
hangs_lines least earlier [] apart = refl
hangs_lines least earlier (m ∷ more) (mark, apart) =
    hang_lines earlier (bar_of m) m.text (hangs_from (earlier ++ m ∷ []) more) mark.text (hangs_lines (m.end + 1) (earlier ++ m ∷ []) more apart)

marks_are_lines : (marks : List Mark) → are_marks None marks ≡ true → are_lines (marks_lines marks) ≡ true
unfolding marks_lines
marks_are_lines [] are = refl
marks_are_lines (m ∷ more) are =
    both _ _ (mark_cells_line 0 (m ∷ more)) (all_reverse is_line (hangs_from [] (m ∷ more)) (hangs_lines 0 [] (m ∷ more) (marks_apart None (m ∷ more) are)))

unders_lines : (digits : ℕ) (lines : List (List ℕ)) → are_lines lines ≡ true → are_lines (unders digits lines) ≡ true
unfolding other_front
unders_lines digits [] are = refl
unders_lines digits (line ∷ more) are =
    both _ _ (line_append (other_front digits) line (line_append (spaces (digits + 2)) (codes ": ") (spaces_line (digits + 2)) refl) (both_first _ _ are)) (unders_lines digits more (both_last _ _ are))

row_front_line : (digits number : ℕ) → number < 2 ^ 64 → is_line (row_front digits number) ≡ true
unfolding row_front
row_front_line digits number small =
    line_append (spaces (digits - length (decimal number))) (decimal number ++ codes " | ") (spaces_line (digits - length (decimal number))) (line_append (decimal number) (codes " | ") (decimal_line number small) refl)

row_is_lines : (digits : ℕ) (row : Row) → row.number < 2 ^ 64 → is_line row.text ≡ true → are_marks None row.marks ≡ true → are_lines (row_lines digits row) ≡ true
unfolding row_lines
row_is_lines digits row small text marks =
    both _ _ (line_append (row_front digits row.number) row.text (row_front_line digits row.number small) text) (unders_lines digits (marks_lines row.marks) (marks_are_lines row.marks marks))

rows_lines : (digits before : ℕ) (rows : List Row) → are_rows before rows ≡ true → HasRowSizes rows → are_lines (flat_map (row_lines digits) rows) ≡ true
unfolding are_rows is_next_row
rows_lines digits before [] are sizes = refl
rows_lines digits before (row ∷ more) are sizes =
    all_append is_line (row_lines digits row) (flat_map (row_lines digits) more)
    (row_is_lines digits row sizes.0 (both_last _ _ (both_first _ _ (both_first _ _ are))) (both_last _ _ (both_first _ _ are)))
    (rows_lines digits row.number more (both_last _ _ are) sizes.1)

numbers_line : (row column : ℕ) → row < 2 ^ 64 → column < 2 ^ 64 → is_line (decimal row ++ (codes ":" ++ (decimal column ++ codes "]"))) ≡ true
numbers_line row column small narrow =
    line_append (decimal row) (codes ":" ++ (decimal column ++ codes "]")) (decimal_line row small) (line_append (decimal column) (codes "]") (decimal_line column narrow) refl)

head_text_line : (head : Head) (rows : ℕ) → is_head head rows ≡ true → HasHeadSizes head → is_line (head_text head) ≡ true
unfolding head_text is_head
head_text_line dashes rows is sizes = refl
head_text_line (bare row column) rows is sizes = numbers_line row column sizes.0 sizes.1
head_text_line (named name row column) rows is sizes =
    line_append name (codes ":" ++ (decimal row ++ (codes ":" ++ (decimal column ++ codes "]")))) (both_first _ _ (both_first _ _ is)) (numbers_line row column sizes.0 sizes.1)

snippet_is_lines : (snippet : Snippet) → is_snippet snippet ≡ true → HasSizes (snippet ∷ []) → are_lines (snippet_lines snippet) ≡ true
unfolding snippet_lines is_snippet head_line close_line
snippet_is_lines snippet is sizes =
    let digits : ℕ = number_width snippet.rows in
    both _ _ (line_append (spaces (digits + 2)) (codes ",-" ++ head_text snippet.head) (spaces_line (digits + 2)) (head_text_line snippet.head _ (both_first _ _ is) sizes.0))
    (all_append is_line (flat_map (row_lines digits) snippet.rows) (close_line digits ∷ []) (rows_lines digits 0 snippet.rows (both_last _ _ is) sizes.1)
    (both _ _ (line_append (spaces (digits + 2)) (codes "`----") (spaces_line (digits + 2)) refl) refl))

pub snippets_lines : (snippets : List Snippet) → list_all is_snippet snippets ≡ true → HasSizes snippets → are_lines (flat_map snippet_lines snippets) ≡ true
snippets_lines [] are sizes = refl
snippets_lines (snippet ∷ more) are sizes =
    all_append is_line (snippet_lines snippet) (flat_map snippet_lines more) (snippet_is_lines snippet (both_first _ _ are) (sizes.0, sizes.1, omega arith)) (snippets_lines more (both_last _ _ are) sizes.2)

pub title_is_line : (severity : Severity) (title : List ℕ) → is_line title ≡ true → is_line (title_line severity title) ≡ true
unfolding title_line
title_is_line Error title is = is
title_is_line Warning title is = is
title_is_line Advice title is = is

-- lines, each with an LF behind it, are cut into these lines and an empty one
split_line : (line rest : List ℕ) → is_line line ≡ true → slice_split (λ b. b == 0x0A) (line ++ 0x0A ∷ rest) ≡ line ∷ slice_split (λ b. b == 0x0A) rest
split_line [] rest is = refl
split_line (b ∷ line) rest is =
    let other : (b == 0x0A) ≡ false = not_eq b 0x0A (both_first (not (b == 0x0A)) (is_line line) is) in
    let later = split_line line rest (both_last (not (b == 0x0A)) (is_line line) is) in
    rw (other, later) refl

pub split_ended : (lines : List (List ℕ)) → are_lines lines ≡ true → slice_split (λ b. b == 0x0A) (ended lines) ≡ lines ++ [] ∷ []
split_ended [] are = refl
split_ended (line ∷ more) are =
    ap (slice_split (λ b. b == 0x0A)) (append_assoc line (0x0A ∷ []) (ended more))
    ∙ split_line line (ended more) (both_first _ _ are)
    ∙ ap (λ l. line ∷ l) (split_ended more (both_last _ _ are))

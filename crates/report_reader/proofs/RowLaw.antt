-- The lines of a row, drawn under the plain theme, are the lines that are shown of what is seen in it.
use Rattle.std.proofs.Common.{◌≡◌, ℕ, ◌+◌, ◌-◌, ◌==◌, Bool, true, false, not, ◌||◌, List, [], ◌∷◌, ◌++◌, length, map, reverse, encode_utf8, Option, Some, None, IfSome, if◌then◌else◌, eqb, refl, sym, ap, subst, ◌∙◌, arith}
use Rattle.std.specs.List.{flat_map, slice_split}
use Rattle.std.proofs.lemmas.List.{append_assoc, append-nil, map-append, reverse-append}
use Rattle.std.proofs.lemmas.Bool.Decides.{nat_tests}
use Rattle.oxc_plan.specs.declared.marks.MarkCells.{MarkCells}
use Rattle.oxc_plan.specs.declared.hangs.Hang.{Hang}
use Rattle.oxc_plan.specs.Plan.{Ordered, RowPlanView}
use Rattle.oxc_handlers.specs.Cells.{repeated}
use Rattle.oxc_handlers.specs.Setting.{SettingView, text_at}
use Rattle.oxc_handlers.specs.Gutters.{gutter_below, bar_piece}
use Rattle.oxc_handlers.specs.Marks.{mark_line}
use Rattle.oxc_handlers.specs.Hangs.{has_mark, bars_before, connector, hung, hanging_line, hung_bar}
use Rattle.oxc_handlers.specs.RowLines as drawn
use Rattle.oxc_handlers.proofs.HangsLemmas as drawn_hangs
use Rattle.report_reader.specs.Seen.{Mark}
use Rattle.report_reader.specs.WellFormed.{is_line}
use Rattle.report_reader.specs.Shown as seen
use Rattle.report_reader.specs.Shown.{spaces, bar_of, gap, ended, unders}
use Rattle.report_reader.proofs.BytesLemmas.{both_first, both_last, not_eq}
use Rattle.report_reader.proofs.RunsLemmas.{least_of}
use Rattle.report_reader.proofs.HangsLemmas.{gap_is}
use Rattle.report_reader.proofs.ShownLemmas.{ended_append, unders_append}
use Rattle.report_reader.specs.SeenOf.{seen_mark}
use Rattle.report_reader.proofs.RowWords.{plain_setting, hang_at, hangs_of, IsApart, AreApart, IsRowShown}
use Rattle.report_reader.proofs.PlainTheme.{blank, newline, repeated_is, styled_highlight, other_front_is, source_line_is, ordered, marks_line_is}
use Rattle.std.proofs.Math.Bool.{or-true as either}

or_first : (a b : Bool) → (a || b) ≡ false → a ≡ false
or_first false b is = refl
or_first true b is = is

or_last : (a b : Bool) → (a || b) ≡ false → b ≡ false
or_last false b is = is
or_last true b is = let no : true ≡ false = is in cc

same_label : (label : ℕ) → eqb label label ≡ true
same_label label = grind (arith, nat_tests)

turned : (a b : ℕ) → eqb a b ≡ false → eqb b a ≡ false
turned a b is = grind (arith, nat_tests)

-- a label that no mark of a list has isn't that of a mark in the list
other_label : (label : ℕ) (earlier : List MarkCells) (m : MarkCells) (more : List MarkCells) → has_mark label (earlier ++ m ∷ more) ≡ false → eqb m.label label ≡ false
other_label label [] m more none = or_first (eqb m.label label) (has_mark label more) none
other_label label (e ∷ earlier) m more none = other_label label earlier m more (or_last (eqb e.label label) (has_mark label (earlier ++ m ∷ more)) none)

mark_there : (earlier : List MarkCells) (m : MarkCells) (more : List MarkCells) → has_mark m.label (earlier ++ m ∷ more) ≡ true
mark_there [] m more = rw (same_label m.label) refl
mark_there (e ∷ earlier) m more =
    let later = mark_there earlier m more in
    rw later (either (eqb e.label m.label))

-- the mark behind others
apart_at : (labels : List Ordered) (least : ℕ) (earlier : List MarkCells) (m : MarkCells) (more : List MarkCells) → AreApart labels least (earlier ++ m ∷ more) → (from : ℕ) × IsApart labels from m more
apart_at labels least [] m more apart = (least, apart.0)
apart_at labels least (e ∷ earlier) m more apart = apart_at labels (e.end + 1) earlier m more apart.1

bar_piece_is : (tab : ℕ) (labels : List Ordered) (digits label : ℕ) → bar_piece (plain_setting tab labels digits) label ≡ 0x7C ∷ []
unfolding bar_piece repeated lib.Utf8.encode
bar_piece_is tab labels digits label = styled_highlight label (0x7C ∷ [])

hung_bar_is : (tab : ℕ) (labels : List Ordered) (digits from : ℕ) (m : MarkCells) → hung_bar (plain_setting tab labels digits) from m ≡ spaces (m.bar - from) ++ 0x7C ∷ []
unfolding hung_bar
hung_bar_is tab labels digits from m = rw (blank, bar_piece_is tab labels digits m.label, repeated_is (m.bar - from) 0x20) refl

-- the line up to the bar of a mark
bars_are : (tab : ℕ) (labels : List Ordered) (digits least : ℕ) (before : Option ℕ) (earlier : List MarkCells) (m : MarkCells) (more : List MarkCells) → AreApart labels least (earlier ++ m ∷ more)
    → drawn_hangs.bars_to (plain_setting tab labels digits) m.label (least_of before) (earlier ++ m ∷ more) ≡ seen.bars_to before (bar_of (seen_mark labels m)) (map (seen_mark labels) earlier)
unfolding drawn_hangs.bars_to seen.bars_to
bars_are tab labels digits least before [] m more (mark, apart) =
    rw (same_label m.label, blank, mark.bar) (repeated_is (bar_of (seen_mark labels m) - least_of before) 0x20 ∙ ap spaces (sym (gap_is before (bar_of (seen_mark labels m)))))
bars_are tab labels digits least before (e ∷ earlier) m more (mark, apart) =
    let other : eqb e.label m.label ≡ false = turned m.label e.label (other_label e.label earlier m more mark.once) in
    let rest = bars_are tab labels digits (e.end + 1) (Some (bar_of (seen_mark labels e))) earlier m more apart in
    rw (other, hung_bar_is tab labels digits (least_of before) e, mark.bar, rest)
    (ap (λ n. (spaces n ++ 0x7C ∷ []) ++ seen.bars_to (Some (bar_of (seen_mark labels e))) (bar_of (seen_mark labels m)) (map (seen_mark labels) earlier)) (sym (gap_is before (bar_of (seen_mark labels e))))
    ∙ append_assoc (spaces (gap before (bar_of (seen_mark labels e)))) (0x7C ∷ []) _)

hung_is : (tab : ℕ) (labels : List Ordered) (digits label : ℕ) (text : List ℕ) → hung (plain_setting tab labels digits) label (drawn.first_mode 1) text ≡ 0x60 ∷ 0x2D ∷ 0x2D ∷ 0x20 ∷ text
unfolding hung connector repeated lib.Utf8.encode
hung_is tab labels digits label text =
    styled_highlight label _ ∙ ap (λ l. 0x60 ∷ 0x2D ∷ 0x2D ∷ 0x20 ∷ l) (styled_highlight label text)

-- a text of one line
one_line : (text : List ℕ) → is_line text ≡ true → slice_split (λ b. b == 10) text ≡ text ∷ []
one_line [] is = refl
one_line (b ∷ text) is =
    let other : (b == 10) ≡ false = not_eq b 10 (both_first (not (b == 10)) (is_line text) is) in
    let later = one_line text (both_last (not (b == 10)) (is_line text) is) in
    rw (other, later) refl

hang_line_is : (tab : ℕ) (labels : List Ordered) (digits : ℕ) (row : RowPlanView) (earlier : List MarkCells) (m : MarkCells) (more : List MarkCells) (text : List ℕ)
    → row.marks ≡ earlier ++ m ∷ more → AreApart labels 0 (earlier ++ m ∷ more)
    → drawn.hang_line (plain_setting tab labels digits) row (record { label = m.label; at = m.label }) (drawn.first_mode 1, text)
    ≡ (seen.under digits (seen.hang_line (map (seen_mark labels) earlier) (bar_of (seen_mark labels m)) text)) ++ 0x0A ∷ []
unfolding drawn.hang_line gutter_below hanging_line seen.hang_line
hang_line_is tab labels digits row earlier m more text are apart =
    let setting : SettingView = plain_setting tab labels digits in
    let marks : List MarkCells = earlier ++ m ∷ more in
    let bars : bars_before setting m.label marks ≡ seen.bars_to None (bar_of (seen_mark labels m)) (map (seen_mark labels) earlier) =
    drawn_hangs.bars_before_is setting m.label marks (ordered labels 0 marks apart) (mark_there earlier m more)
    ∙ bars_are tab labels digits 0 None earlier m more apart in
    rw (are, bars, hung_is tab labels digits m.label text, other_front_is tab labels digits, newline, append-nil (seen.other_front digits)) refl

hang_lines_by : (tab : ℕ) (labels : List Ordered) (digits : ℕ) (row : RowPlanView) (earlier : List MarkCells) (m : MarkCells) (more : List MarkCells) (text : Option (List ℕ))
    → row.marks ≡ earlier ++ m ∷ more → AreApart labels 0 (earlier ++ m ∷ more) → text_at labels m.label ≡ text → IfSome text (λ line. is_line line ≡ true)
    → flat_map (drawn.hang_lines (plain_setting tab labels digits) row) (reverse (hang_at m.label text)) ≡ ended (unders digits (reverse (seen.hang_of (map (seen_mark labels) earlier) (bar_of (seen_mark labels m)) text)))
unfolding drawn.hang_lines drawn.label_lines
hang_lines_by tab labels digits row earlier m more None are apart at line = refl
hang_lines_by tab labels digits row earlier m more (Some text) are apart at line =
    rw (at, one_line text line) (ap (λ l. (l ++ []) ++ []) (hang_line_is tab labels digits row earlier m more text are apart) ∙ ap (λ l. l ++ []) (append-nil _))

flat_map_append : {X : Type 0} (F : X → List ℕ) (xs ys : List X) → flat_map F (xs ++ ys) ≡ flat_map F xs ++ flat_map F ys
flat_map_append F [] ys = refl
flat_map_append F (x ∷ xs) ys = ap (λ l. F x ++ l) (flat_map_append F xs ys) ∙ sym (append_assoc (F x) (flat_map F xs) (flat_map F ys))

hangs_are : (tab : ℕ) (labels : List Ordered) (digits : ℕ) (row : RowPlanView) (earlier marks : List MarkCells) → row.marks ≡ earlier ++ marks → AreApart labels 0 (earlier ++ marks)
    → flat_map (drawn.hang_lines (plain_setting tab labels digits) row) (reverse (hangs_of labels marks)) ≡ ended (unders digits (reverse (seen.hangs_from (map (seen_mark labels) earlier) (map (seen_mark labels) marks))))
hangs_are tab labels digits row earlier [] are apart = refl
hangs_are tab labels digits row earlier (m ∷ more) are apart =
    let F : Hang → List ℕ = drawn.hang_lines (plain_setting tab labels digits) row in
    let text : Option (List ℕ) = text_at labels m.label in
    let before : List Mark = map (seen_mark labels) earlier in
    let here : List (List ℕ) = seen.hang_of before (bar_of (seen_mark labels m)) text in
    let later : List (List ℕ) = seen.hangs_from (before ++ seen_mark labels m ∷ []) (map (seen_mark labels) more) in
    let shift : earlier ++ m ∷ more ≡ (earlier ++ m ∷ []) ++ more = sym (append_assoc earlier (m ∷ []) more) in
    let rest : flat_map F (reverse (hangs_of labels more)) ≡ ended (unders digits (reverse later)) =
    hangs_are tab labels digits row (earlier ++ m ∷ []) more (are ∙ shift) (subst (AreApart labels 0) shift apart)
    ∙ ap (λ l. ended (unders digits (reverse (seen.hangs_from l (map (seen_mark labels) more))))) (map-append (seen_mark labels) earlier (m ∷ [])) in
    let one : flat_map F (reverse (hang_at m.label text)) ≡ ended (unders digits (reverse here)) =
    hang_lines_by tab labels digits row earlier m more text are apart refl (apart_at labels 0 earlier m more apart).1.text in
    ap (flat_map F) (reverse-append (hang_at m.label text) (hangs_of labels more))
    ∙ flat_map_append F (reverse (hangs_of labels more)) (reverse (hang_at m.label text))
    ∙ ap (λ l. l ++ flat_map F (reverse (hang_at m.label text))) rest
    ∙ ap (λ l. ended (unders digits (reverse later)) ++ l) one
    ∙ sym (ap (λ l. ended (unders digits l)) (reverse-append here later) ∙ ap ended (unders_append digits (reverse later) (reverse here)) ∙ ended_append (unders digits (reverse later)) (unders digits (reverse here)))

-- the lines under a row
under_are : (tab : ℕ) (labels : List Ordered) (digits : ℕ) (row : RowPlanView) (marks : List MarkCells) → row.marks ≡ marks → AreApart labels 0 marks
    → drawn.marks_line (plain_setting tab labels digits) row ++ flat_map (drawn.hang_lines (plain_setting tab labels digits) row) (reverse (hangs_of labels marks))
    ≡ ended (unders digits (seen.marks_lines (map (seen_mark labels) marks)))
unfolding drawn.marks_line gutter_below seen.marks_lines
under_are tab labels digits row [] are apart = rw are refl
under_are tab labels digits row (m ∷ more) are apart =
    let setting : SettingView = plain_setting tab labels digits in
    let some : (length (m ∷ more) == 0) ≡ false = grind (arith, nat_tests) in
    let line : drawn.marks_line setting row ≡ seen.under digits (seen.mark_cells 0 (map (seen_mark labels) (m ∷ more))) ++ 0x0A ∷ [] =
    ap (λ ms. if length ms == 0 then [] else (drawn.other_front setting ++ [] ++ mark_line setting ms) ++ encode_utf8 0x0A) are ∙ rw some (marks_line_is tab labels digits m more apart) in
    ap (λ l. l ++ flat_map (drawn.hang_lines setting row) (reverse (hangs_of labels (m ∷ more)))) line
    ∙ ap (λ l. (seen.under digits (seen.mark_cells 0 (map (seen_mark labels) (m ∷ more))) ++ 0x0A ∷ []) ++ l) (hangs_are tab labels digits row [] (m ∷ more) are apart)

pub row_shown : (tab : ℕ) (labels : List Ordered) (digits : ℕ) (row : RowPlanView) → IsRowShown tab labels digits row
unfolding drawn.row_lines seen.row_lines drawn.row_line drawn.marks_line drawn.hang_lines drawn.hang_line
row_shown tab labels digits row = λ readable.
    let setting : SettingView = plain_setting tab labels digits in
    rw (readable.ends, readable.hangs)
    (append-nil _
    ∙ append_assoc (drawn.row_line setting row) (drawn.marks_line setting row) _
    ∙ ap (λ l. drawn.row_line setting row ++ l) (under_are tab labels digits row row.marks refl readable.marks)
    ∙ ap (λ l. l ++ ended (unders digits (seen.marks_lines (map (seen_mark labels) row.marks)))) (source_line_is tab labels digits row))

-- The line of marks by columns is what is written mark after mark.
use Rattle.std.proofs.Common.{◌≡◌, ℕ, ◌+◌, ◌-◌, ◌<◌, ◌≤◌, true, false, List, [], ◌∷◌, ◌++◌, length, drop, get_or, encode_utf8, Some, None, eqb, refl, sym, ap, subst, ◌∙◌, arith, append_assoc, append-nil}
use Rattle.std.specs.List.{find}
use Rattle.std.proofs.lemmas.Bool.Decides.{nat_tests}
use Rattle.std.proofs.lemmas.List.{at_drop_more, drop_all}
use Rattle.oxc_plan.specs.declared.marks.MarkCells.{MarkCells}
use Rattle.oxc_handlers.specs.Setting.{SettingView, highlight}
use Rattle.oxc_handlers.specs.Cells.{cells}
use Rattle.oxc_handlers.specs.Theme.{styled}
use Rattle.oxc_handlers.specs.Marks.{holds, marker, mark_char, cell_at, mark_pieces, mark_line, IsMark, AreOrdered, drawn_mark}
use Rattle.oxc_handlers.proofs.CellsLemmas.{cells_of_mark}

unfoldable pub drawn_marks : SettingView → ℕ → List MarkCells → List ℕ
drawn_marks setting before [] = []
drawn_marks setting before (m ∷ more) = drawn_mark setting before m ++ drawn_marks setting m.end more

holds_not_yet : (c : ℕ) (m : MarkCells) → c < m.start → holds c m ≡ false
holds_not_yet c m lt = grind (arith, nat_tests)

holds_no_more : (c : ℕ) (m : MarkCells) → m.end ≤ c → holds c m ≡ false
holds_no_more c m le = grind (arith, nat_tests)

holds_here : (c : ℕ) (m : MarkCells) → m.start ≤ c → c < m.end → holds c m ≡ true
holds_here c m from to = grind (arith, nat_tests)

-- before the first mark there is none
find_early : (before : ℕ) (marks : List MarkCells) (c : ℕ) → AreOrdered before marks → c < before → find (holds c) marks ≡ None
find_early before [] c ordered lt = refl
find_early before (m ∷ more) c (mark, ordered) lt =
    rw (holds_not_yet c m (omega (arith, mark.start))) (find_early m.end more c ordered (omega (arith, mark.start, mark.bar, mark.end)))

find_first : (m : MarkCells) (more : List MarkCells) (c : ℕ) → m.start ≤ c → c < m.end → find (holds c) (m ∷ more) ≡ Some m
find_first m more c from to = rw (holds_here c m from to) refl

find_gap : (before : ℕ) (m : MarkCells) (more : List MarkCells) (c : ℕ) → IsMark before m → AreOrdered m.end more → c < m.start → find (holds c) (m ∷ more) ≡ None
find_gap before m more c mark ordered lt =
    rw (holds_not_yet c m lt) (find_early m.end more c ordered (omega (arith, mark.bar, mark.end)))

find_later : (m : MarkCells) (more : List MarkCells) (c : ℕ) → m.end ≤ c → find (holds c) (m ∷ more) ≡ find (holds c) more
find_later m more c le = rw (holds_no_more c m le) refl

char_in_gap : (setting : SettingView) (marks : List MarkCells) (c : ℕ) → find (holds c) marks ≡ None → cell_at setting marks c ≡ encode_utf8 0x20
char_in_gap setting marks c none = rw none refl

char_in_mark : (setting : SettingView) (marks : List MarkCells) (c : ℕ) (m : MarkCells) → find (holds c) marks ≡ Some m → cell_at setting marks c ≡ encode_utf8 (mark_char setting c m)
char_in_mark setting marks c m some = rw some refl

char_at_bar : (setting : SettingView) (m : MarkCells) → mark_char setting m.bar m ≡ marker setting m.label
char_at_bar setting m = grind (arith, nat_tests)

char_off_bar : (setting : SettingView) (c : ℕ) (m : MarkCells) → eqb c m.bar ≡ false → mark_char setting c m ≡ setting.theme.characters.underline
char_off_bar setting c m off = rw off refl

-- one piece, where `all` holds at the piece's columns what the rest of the marks holds
piece_is : (setting : SettingView) (all : List MarkCells) (before : ℕ) (m : MarkCells) (more : List MarkCells) → IsMark before m → AreOrdered m.end more
    → ((c : ℕ) → before ≤ c → find (holds c) all ≡ find (holds c) (m ∷ more))
    → styled (highlight setting.theme m.label) (cells (cell_at setting all) before (m.end - before)) ≡ drawn_mark setting before m
unfolding drawn_mark
piece_is setting all before m more mark ordered same =
    let line = encode_utf8 setting.theme.characters.underline in
    let within : (c : ℕ) → m.start ≤ c → c < m.end → cell_at setting all c ≡ encode_utf8 (mark_char setting c m) =
    λ c from to. char_in_mark setting all c m (same c (omega (arith, mark.start)) ∙ find_first m more c from to) in
    ap (styled (highlight setting.theme m.label))
    (cells_of_mark (cell_at setting all) before m.start m.bar m.end (encode_utf8 0x20) line (encode_utf8 (marker setting m.label)) mark.start mark.bar mark.end
    (λ c from to. char_in_gap setting all c (same c from ∙ find_gap before m more c mark ordered to))
    (λ c from to. within c from (omega (arith, mark.end)) ∙ ap encode_utf8 (char_off_bar setting c m (grind (arith, nat_tests))))
    (within m.bar mark.bar mark.end ∙ ap encode_utf8 (char_at_bar setting m))
    (λ c from to. within c (omega (arith, mark.bar)) to ∙ ap encode_utf8 (char_off_bar setting c m (grind (arith, nat_tests)))))

pieces_are : (setting : SettingView) (all : List MarkCells) (before : ℕ) (marks : List MarkCells) → AreOrdered before marks
    → ((c : ℕ) → before ≤ c → find (holds c) all ≡ find (holds c) marks)
    → mark_pieces setting all before marks ≡ drawn_marks setting before marks
unfolding mark_pieces drawn_marks
pieces_are setting all before [] ordered same = refl
pieces_are setting all before (m ∷ more) (mark, ordered) same =
    ap (λ l. l ++ mark_pieces setting all m.end more) (piece_is setting all before m more mark ordered same)
    ∙ ap (λ l. drawn_mark setting before m ++ l)
    (pieces_are setting all m.end more ordered (λ c le. same c (omega (arith, mark.start, mark.bar, mark.end)) ∙ find_later m more c le))

-- the line is what is written
pub mark_line_is : (setting : SettingView) (marks : List MarkCells) → AreOrdered 0 marks → mark_line setting marks ≡ drawn_marks setting 0 marks
unfolding mark_line
mark_line_is setting marks ordered = pieces_are setting marks 0 marks ordered (λ c le. refl)

-- one mark more, and none more
pub drawn_marks_more : (setting : SettingView) (out : List ℕ) (before : ℕ) (marks : List MarkCells) (i : ℕ) (d : MarkCells) → i < length marks
    → out ++ drawn_mark setting before (get_or marks i d) ++ drawn_marks setting (get_or marks i d).end (drop (i + 1) marks) ≡ out ++ drawn_marks setting before (drop i marks)
unfolding drawn_marks
drawn_marks_more setting out before marks i d lt =
    append_assoc out _ _ ∙ ap (λ l. out ++ l) (sym (at_drop_more (drawn_marks setting before) marks i d lt))

pub drawn_marks_none : (setting : SettingView) (out : List ℕ) (before : ℕ) (marks : List MarkCells) (i : ℕ) → length marks ≤ i → out ++ drawn_marks setting before (drop i marks) ≡ out
unfolding drawn_marks
drawn_marks_none setting out before marks i le = ap (λ l. out ++ drawn_marks setting before l) (drop_all i marks le) ∙ append-nil out

pub ordered_more : (before : ℕ) (marks : List MarkCells) (i : ℕ) (d : MarkCells) → i < length marks → AreOrdered before (drop i marks)
    → IsMark before (get_or marks i d) × AreOrdered (get_or marks i d).end (drop (i + 1) marks)
ordered_more before marks i d lt ordered = subst (AreOrdered before) (at_drop_more (λ l. l) marks i d lt) ordered

-- a mark line, mark by mark
pub ruleset marks_one_by_one = (mark_line_is, drawn_marks_more, drawn_marks_none)

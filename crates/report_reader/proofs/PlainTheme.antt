-- The drawing of a row under the plain theme, without styles and without a gutter.
use Rattle.std.proofs.Common.{◌≡◌, ℕ, ◌+◌, ◌-◌, ◌≤◌, Bool, true, false, not, ◌&&◌, List, [], ◌∷◌, ◌++◌, length, map, replicate, decimal, encode_utf8, is_some, if◌then◌else◌, refl, ap, ◌∙◌, arith, zero, suc, get_or}
use Rattle.std.proofs.lemmas.List.{append_assoc, append-nil}
use Rattle.oxc_plan.specs.declared.marks.MarkCells.{MarkCells}
use Rattle.oxc_plan.specs.Plan.{Ordered, RowPlanView}
use Rattle.oxc_handlers.specs.declared.theme.Style.TheVariants.{Plain}
use Rattle.oxc_handlers.specs.Cells.{repeated}
use Rattle.oxc_handlers.specs.Setting.{text_at, is_empty_at, highlight}
use Rattle.oxc_handlers.specs.Theme.{none_theme, styled}
use Rattle.oxc_handlers.specs.Gutters.{gutter}
use Rattle.oxc_handlers.specs.Marks as drawn_marks_specs
use Rattle.oxc_handlers.specs.Marks.{IsMark, AreOrdered, drawn_mark, mark_line}
use Rattle.oxc_handlers.specs.RowLines as drawn
use Rattle.oxc_handlers.specs.Texts.{shown_text}
use Rattle.oxc_handlers.proofs.MarksLemmas.{drawn_marks, mark_line_is}
use Rattle.report_reader.specs.Shown as seen
use Rattle.report_reader.specs.Shown.{spaces, carets, bar_of}
use Rattle.report_reader.specs.SeenOf.{seen_mark}
use Rattle.report_reader.proofs.RowWords.{plain_setting, IsApart, AreApart}
pub use Rattle.oxc_handlers.proofs.PlacesLemmas.{styled_plain}

pub blank : encode_utf8 0x20 ≡ 0x20 ∷ []
unfolding lib.Utf8.encode
blank = refl

pub caret : encode_utf8 0x5E ≡ 0x5E ∷ []
unfolding lib.Utf8.encode
caret = refl

pub newline : encode_utf8 0x0A ≡ 0x0A ∷ []
unfolding lib.Utf8.encode
newline = refl

pub apart_from : (labels : List Ordered) (least later : ℕ) (marks : List MarkCells) → least ≤ later → AreApart labels later marks → AreApart labels least marks
apart_from labels least later [] le apart = omega arith
apart_from labels least later (m ∷ more) le (mark, apart) =
    (record { start = omega (arith, mark.start); end = mark.end; bar = mark.bar; text = mark.text; once = mark.once }, apart)

pub repeated_is : (n c : ℕ) → repeated n (c ∷ []) ≡ replicate n c
unfolding repeated
repeated_is zero c = refl
repeated_is (suc n) c = ap (λ l. c ∷ l) (repeated_is n c)

plain_of_three : (n : ℕ) → get_or (Plain ∷ Plain ∷ Plain ∷ []) n Plain ≡ Plain
plain_of_three zero = refl
plain_of_three (suc zero) = refl
plain_of_three (suc (suc zero)) = refl
plain_of_three (suc (suc (suc n))) = refl

pub highlight_plain : (label : ℕ) → highlight none_theme label ≡ Plain
unfolding highlight
highlight_plain label = plain_of_three _

pub styled_highlight : (label : ℕ) (text : List ℕ) → styled (highlight none_theme label) text ≡ text
styled_highlight label text = ap (λ style. styled style text) (highlight_plain label) ∙ styled_plain text

pub other_front_is : (tab : ℕ) (labels : List Ordered) (digits : ℕ) → drawn.other_front (plain_setting tab labels digits) ≡ seen.other_front digits
unfolding drawn.other_front seen.other_front lib.Utf8.encode
other_front_is tab labels digits =
    append_assoc (repeated (digits + 2) (0x20 ∷ [])) (0x3A ∷ []) (0x20 ∷ [])
    ∙ ap (λ l. l ++ (0x3A ∷ 0x20 ∷ [])) (repeated_is (digits + 2) 0x20)

pub source_line_is : (tab : ℕ) (labels : List Ordered) (digits : ℕ) (row : RowPlanView)
    → drawn.row_line (plain_setting tab labels digits) row ≡ (seen.row_front digits row.row.number ++ shown_text tab row.row.text) ++ 0x0A ∷ []
unfolding drawn.row_line drawn.row_front drawn.padded gutter seen.row_front lib.Utf8.encode
source_line_is tab labels digits row =
    let n : ℕ = digits - length (decimal row.row.number) in
    let number : styled Plain (repeated n (0x20 ∷ []) ++ decimal row.row.number) ≡ spaces n ++ decimal row.row.number =
    styled_plain (repeated n (0x20 ∷ []) ++ decimal row.row.number) ∙ ap (λ l. l ++ decimal row.row.number) (repeated_is n 0x20) in
    rw number (simp append_assoc refl)

-- the marker of a label is the marker of what is seen
marker_by : (empty text : Bool) → encode_utf8 (if empty then 0x5E else if text then 0x7C else 0x5E) ≡ (if text && not (empty && text) then 0x7C else 0x5E) ∷ []
unfolding lib.Utf8.encode
marker_by true true = refl
marker_by true false = refl
marker_by false true = refl
marker_by false false = refl

marker_is : (tab : ℕ) (labels : List Ordered) (digits : ℕ) (m : MarkCells) → encode_utf8 (drawn_marks_specs.marker (plain_setting tab labels digits) m.label) ≡ seen.marker (seen_mark labels m) ∷ []
unfolding drawn_marks_specs.marker
marker_is tab labels digits m = marker_by (is_empty_at labels m.label) (is_some (text_at labels m.label))

mark_is : (tab : ℕ) (labels : List Ordered) (digits from least : ℕ) (m : MarkCells) (more : List MarkCells) → IsApart labels least m more
    → drawn_mark (plain_setting tab labels digits) from m ≡ spaces (m.start - from) ++ seen.mark_body (seen_mark labels m)
unfolding drawn_mark seen.mark_body
mark_is tab labels digits from least m more mark =
    let line : encode_utf8 0x5E ≡ 0x5E ∷ [] = caret in
    let gap : encode_utf8 0x20 ≡ 0x20 ∷ [] = blank in
    styled_highlight m.label _
    ∙ rw (line, gap, marker_is tab labels digits m, repeated_is (m.start - from) 0x20, repeated_is (m.bar - m.start) 0x5E, repeated_is (m.end - m.bar - 1) 0x5E, mark.bar) (simp append_assoc refl)

pub marks_are : (tab : ℕ) (labels : List Ordered) (digits from : ℕ) (marks : List MarkCells) → AreApart labels from marks
    → drawn_marks (plain_setting tab labels digits) from marks ≡ seen.mark_cells from (map (seen_mark labels) marks)
unfolding drawn_marks seen.mark_cells
marks_are tab labels digits from [] apart = refl
marks_are tab labels digits from (m ∷ more) (mark, apart) =
    ap (λ l. l ++ drawn_marks (plain_setting tab labels digits) m.end more) (mark_is tab labels digits from from m more mark)
    ∙ append_assoc (spaces (m.start - from)) (seen.mark_body (seen_mark labels m)) (drawn_marks (plain_setting tab labels digits) m.end more)
    ∙ ap (λ l. spaces (m.start - from) ++ (seen.mark_body (seen_mark labels m) ++ l)) (marks_are tab labels digits m.end more (apart_from labels m.end (m.end + 1) more (omega arith) apart))

pub ordered : (labels : List Ordered) (least : ℕ) (marks : List MarkCells) → AreApart labels least marks → AreOrdered least marks
ordered labels least [] apart = tt
ordered labels least (m ∷ more) (mark, apart) =
    (record { start = mark.start; bar = omega (arith, mark.end, mark.bar); end = omega (arith, mark.end, mark.bar) }, ordered labels m.end more (apart_from labels m.end (m.end + 1) more (omega arith) apart))

pub marks_line_is : (tab : ℕ) (labels : List Ordered) (digits : ℕ) (m : MarkCells) (more : List MarkCells) → AreApart labels 0 (m ∷ more)
    → (drawn.other_front (plain_setting tab labels digits) ++ [] ++ mark_line (plain_setting tab labels digits) (m ∷ more)) ++ encode_utf8 0x0A
    ≡ seen.under digits (seen.mark_cells 0 (map (seen_mark labels) (m ∷ more))) ++ 0x0A ∷ []
marks_line_is tab labels digits m more apart =
    rw (other_front_is tab labels digits, mark_line_is (plain_setting tab labels digits) (m ∷ more) (ordered labels 0 (m ∷ more) apart), marks_are tab labels digits 0 (m ∷ more) apart, newline, append-nil (seen.other_front digits)) refl

-- A row of ASCII: whatever its clusters, each of its characters but a tab and an escape takes one cell.
use Rattle.std.proofs.Common.{◌≡◌, ℕ, ◌+◌, ◌-◌, ◌%◌, ◌<◌, ◌≤◌, Bool, true, false, ◌||◌, cond, List, [], ◌∷◌, ◌++◌, map, length, fold, take, drop, get_or, ⊎_elim, refl, sym, ap, subst, ◌∙◌, arith, eqb, length-append, replicate, unwrap_or, zero, suc}
use Rattle.std.specs.Prelude.{All, encode_utf8_all}
use Rattle.std.specs.List.{flat_map}
use Rattle.std.specs.Int.{is_in_range}
use Rattle.std.specs.Str.{IsAscii}
use Rattle.std.proofs.lemmas.Bool.{false≢true, eqb-true, cases_lt, le-ltb}
use Rattle.std.proofs.lemmas.Bool.Decides.{nat_tests}
use Rattle.std.proofs.lemmas.List.{length-replicate, at_drop_more, at_drop_all, get_or-take, get_or_past, length-take, map-append}
use Rattle.std.proofs.lemmas.List.Elements.{All-head, All-tail, All-from_get_or}
use Rattle.std.proofs.lemmas.Str.{chars-IsAscii, encode_ascii, IsCharBoundary-from_ascii}
use Rattle.std.proofs.lemmas.Str.Ascii.{IsAscii-from_all}
use Rattle.oxc_plan.proofs.BoundaryLemmas.{down_is, up_is}
use Rattle.std.proofs.lemmas.List.Sums.{fold-append}
use Rattle.std.specs.Prelude.{slice_range}
use Rattle.unicode_segmentation.proofs.TextLemmas.{take_split}
use Rattle.ucd_table.proofs.Computing.{tables}
use Rattle.ucd_table.proofs.Facts.{Stepped-below}
use Rattle.ucd_breaks.specs.GraphemeClusterBreak.{grapheme_cluster_break}
use Rattle.ucd_breaks.proofs.GraphemeClusterBreakLemmas.{grapheme_cluster_break_stepped}
use Rattle.ucd_breaks.specs.declared.GraphemeClusterBreak.{GraphemeClusterBreak}
use Rattle.ucd_breaks.specs.declared.GraphemeClusterBreak.TheVariants.{Control, Cr, Lf, Other}
use Rattle.unicode_segmentation.specs.Grapheme.{is_grapheme_break, break_by_pair}
use Rattle.unicode_segmentation.specs.Segments.{cut, segments}
use Rattle.unicode_segmentation.proofs.GraphemeLemmas.{is_grapheme_break-inside, is_grapheme_break-others}
use Rattle.unicode_width.specs.Width.{str_width}
use Rattle.unicode_width.proofs.Rules.{str_width-printable}
use Rattle.oxc_plan.specs.declared.columns.Pen.{Pen}
use Rattle.oxc_plan.specs.Rows.{RowView}
use Rattle.oxc_plan.specs.Width.{advance_of, is_control, with_lead, led, led_text, moved, at_margin, stays_in_escape, pen_after, text_width}
use Rattle.oxc_plan.specs.Columns.{boundary_down, boundary_up, column_in, drawn_char, drawn_from, drawn_text, HasColumnsAsDrawn}
use Rattle.oxc_plan.proofs.ClustersLemmas.{ends as breaks_at_end}

abbrev stands_alone : ℕ → GraphemeClusterBreak → Bool
stands_alone c Control = true
stands_alone c Cr = eqb c 13
stands_alone c Lf = eqb c 10
stands_alone c Other = true
stands_alone c _ = false

kind_of_ascii : (c : ℕ) → c < 128 → stands_alone c (grapheme_cluster_break c) ≡ true
unfolding tables grapheme_cluster_break_stepped
kind_of_ascii = Stepped-below grapheme_cluster_break grapheme_cluster_break_stepped stands_alone 128 refl

-- what the rules on pairs say of the values of two characters of ASCII that are no CRLF
pair_breaks : (left right : GraphemeClusterBreak) (c d : ℕ) (said : Bool) → stands_alone c left ≡ true → stands_alone d right ≡ true → (eqb c 13 ≡ true → eqb d 10 ≡ false)
    → (left ≡ Other → right ≡ Other → said ≡ true) → unwrap_or (break_by_pair true left right) said ≡ true
pair_breaks Control right c d said l r no_crlf others = refl
pair_breaks Lf right c d said l r no_crlf others = refl
pair_breaks Cr Lf c d said l r no_crlf others = absurd (false≢true (sym (no_crlf l) ∙ r))
pair_breaks Cr _ c d said l r no_crlf others = refl
pair_breaks Other Control c d said l r no_crlf others = refl
pair_breaks Other Cr c d said l r no_crlf others = refl
pair_breaks Other Lf c d said l r no_crlf others = refl
pair_breaks Other Other c d said l r no_crlf others = others refl refl
pair_breaks Other _ c d said l r no_crlf others = absurd (false≢true r)
pair_breaks _ right c d said l r no_crlf others = absurd (false≢true l)

from_others : (left right : GraphemeClusterBreak) (said : Bool) → left ≡ Other → right ≡ Other → unwrap_or (break_by_pair true left right) said ≡ true → said ≡ true
from_others left right said a b e = rw (a, b) at e

-- any two characters of ASCII break, if they are no CRLF
ascii_breaks : (last next : ℕ) (before after : List ℕ) → last < 128 → next < 128 → (eqb last 13 ≡ true → eqb next 10 ≡ false) → is_grapheme_break true (last ∷ before) (next ∷ after) ≡ true
ascii_breaks last next before after l n no_crlf =
    let pair = is_grapheme_break-inside true (last ∷ before) next after (omega arith) in
    pair ∙ pair_breaks (grapheme_cluster_break last) (grapheme_cluster_break next) last next _ (kind_of_ascii last l) (kind_of_ascii next n) no_crlf
    (λ a b. from_others (grapheme_cluster_break last) (grapheme_cluster_break next) _ a b (sym pair ∙ sym (is_grapheme_break-others true (last ∷ before) next after (omega arith) (omega arith) (sym a) (sym b))))

breaks_after : (last : ℕ) (before cs : List ℕ) → last < 128 → All (λ c. c < 128) cs → eqb last 13 ≡ false → is_grapheme_break true (last ∷ before) (cs ++ []) ≡ true
unfolding is_grapheme_break
breaks_after last before [] l low no_cr = refl
breaks_after last before (d ∷ cs) l low no_cr = ascii_breaks last d before (cs ++ []) l (All-head (λ c. c < 128) d cs low) (λ h. absurd (false≢true (sym no_cr ∙ h)))

-- a cluster of one character of ASCII, and one of two, with its width
abbrev single : ℕ → List ℕ
single c = c ∷ []

abbrev double : ℕ → ℕ → List ℕ
double c d = c ∷ d ∷ []

single_ascii : (c : ℕ) → c < 128 → IsAscii (single c)
single_ascii c lt zero = lt
single_ascii c lt (suc i) = omega arith

double_ascii : (c d : ℕ) → c < 128 → d < 128 → IsAscii (double c d)
double_ascii c d l r zero = l
double_ascii c d l r (suc zero) = r
double_ascii c d l r (suc (suc i)) = omega arith

led_single : (c : ℕ) → c < 128 → led (encode_utf8_all (single c)) ≡ (str_width false (single c), c) ∷ []
led_single c lt =
    let bytes : encode_utf8_all (single c) ≡ single c = rw (encode_ascii c lt) refl in
    ap led bytes ∙ ap (λ cs. with_lead (str_width false cs) cs) (chars-IsAscii (single c) (single_ascii c lt))

led_double : (c d : ℕ) → c < 128 → d < 128 → led (encode_utf8_all (double c d)) ≡ (str_width false (double c d), c) ∷ (0, d) ∷ []
led_double c d l r =
    let bytes : encode_utf8_all (double c d) ≡ double c d = rw (encode_ascii c l, encode_ascii d r) refl in
    ap led bytes ∙ ap (λ cs. with_lead (str_width false cs) cs) (chars-IsAscii (double c d) (double_ascii c d l r))

width_single : (c : ℕ) → is_in_range 0x20 0x7E c ≡ true → str_width false (single c) ≡ 1
width_single c h = str_width-printable false (single c) (rw h refl)

printable : (c : ℕ) → c < 128 → is_control c ≡ false → is_in_range 0x20 0x7E c ≡ true
printable c lt no_control = grind (arith, nat_tests)

-- a character of width 1
abbrev pub lone : ℕ → ℕ × ℕ
lone c = (1, c)

-- what is drawn of characters one after another, if each is drawn by where the pen stands
unfoldable pub walked : ℕ → (Pen → ℕ → List ℕ) → Pen → List (ℕ × ℕ) → List ℕ
walked tab char pen [] = []
walked tab char pen (p ∷ ps) = char pen p.1 ++ walked tab char (moved tab pen p) ps

-- where only controls have another width than 1, the pen moves and the text is drawn as if each character had that
abbrev AreAlike : List (ℕ × ℕ) → List ℕ → Type 0
AreAlike ps cs =
    (tab : ℕ) (pen : Pen) → (fold (moved tab) pen ps ≡ fold (moved tab) pen (map lone cs)) × ((char : Pen → ℕ → List ℕ) → walked tab char pen ps ≡ walked tab char pen (map lone cs))

same_advance : (tab : ℕ) (escape : Bool) (column lead c : ℕ) → (is_control c ≡ false → lead ≡ 1) → advance_of tab escape column lead c ≡ advance_of tab escape column 1 c
same_advance tab escape column lead c one = grind (arith, nat_tests, one)

same_step : (tab : ℕ) (pen : Pen) (lead c : ℕ) → (is_control c ≡ false → lead ≡ 1) → moved tab pen (lead, c) ≡ moved tab pen (lone c)
same_step tab pen lead c one =
    ap {A = ℕ} {B = Pen} (λ n. record { column = pen.column + n; in_escape = stays_in_escape pen.in_escape c }) (same_advance tab pen.in_escape pen.column lead c one)

alike_more : (lead c : ℕ) (ps : List (ℕ × ℕ)) (cs : List ℕ) → (is_control c ≡ false → lead ≡ 1) → AreAlike ps cs → AreAlike ((lead, c) ∷ ps) (c ∷ cs)
unfolding walked
alike_more lead c ps cs one alike tab pen =
    let step = same_step tab pen lead c one in
    let rest = alike tab (moved tab pen (lone c)) in (
      ap (λ p. fold (moved tab) p ps) step ∙ rest.0,
      λ char. ap (λ p. char pen c ++ walked tab char p ps) step ∙ ap (λ l. char pen c ++ l) (rest.1 char),
    )

-- the characters of what is left of a text, by its clusters
abbrev clusters : List ℕ → List ℕ → List (ℕ × ℕ)
clusters before cs = flat_map led (map encode_utf8_all (cut (is_grapheme_break true) before cs []))

first_alone : (before : List ℕ) (c : ℕ) (cs : List ℕ) → c < 128 → is_grapheme_break true (c ∷ before) (cs ++ []) ≡ true
    → clusters before (c ∷ cs) ≡ (str_width false (single c), c) ∷ clusters (c ∷ before) cs
unfolding cut
first_alone before c cs lt breaks = rw breaks (ap (λ l. l ++ clusters (c ∷ before) cs) (led_single c lt))

first_joined : (before : List ℕ) (c d : ℕ) (cs : List ℕ) → c < 128 → d < 128 → is_grapheme_break true (c ∷ before) (d ∷ (cs ++ [])) ≡ false → is_grapheme_break true (d ∷ c ∷ before) (cs ++ []) ≡ true
    → clusters before (c ∷ d ∷ cs) ≡ (str_width false (double c d), c) ∷ (0, d) ∷ clusters (d ∷ c ∷ before) cs
unfolding cut
first_joined before c d cs l r joins breaks = rw (joins, breaks) (ap (λ l. l ++ clusters (d ∷ c ∷ before) cs) (led_double c d l r))

both : (a b : Bool) → ¬ (a ≡ true → b ≡ false) → (a ≡ true) × (b ≡ true)
both true true no_other = (refl, refl)
both true false no_other = absurd (no_other (λ h. refl))
both false b no_other = absurd (no_other (λ h. absurd (false≢true h)))

control_leads : (c n lead : ℕ) → eqb c n ≡ true → is_control n ≡ true → is_control c ≡ false → lead ≡ 1
control_leads c n lead same control h = absurd (false≢true (sym h ∙ ap is_control (eqb-true c n same) ∙ control))

alike_pair : (before : List ℕ) (c d : ℕ) (cs : List ℕ) (b : Bool) → is_grapheme_break true (c ∷ before) (d ∷ (cs ++ [])) ≡ b → c < 128 → d < 128 → All (λ x. x < 128) cs
    → AreAlike (clusters (c ∷ before) (d ∷ cs)) (d ∷ cs) → AreAlike (clusters (d ∷ c ∷ before) cs) cs → AreAlike (clusters before (c ∷ d ∷ cs)) (c ∷ d ∷ cs)
alike_pair before c d cs true breaks l r low one two =
    subst (λ ps. AreAlike ps (c ∷ d ∷ cs)) (sym (first_alone before c (d ∷ cs) l breaks))
    (alike_more (str_width false (single c)) c (clusters (c ∷ before) (d ∷ cs)) (d ∷ cs) (λ h. width_single c (printable c l h)) one)
alike_pair before c d cs false joins l r low one two =
    let crlf = both (eqb c 13) (eqb d 10) (λ h. false≢true (sym joins ∙ ascii_breaks c d before (cs ++ []) l r h)) in
    let no_cr : eqb d 13 ≡ false = subst (λ n. eqb n 13 ≡ false) (sym (eqb-true d 10 crlf.1)) refl in
    let breaks = breaks_after d (c ∷ before) cs r low no_cr in
    subst (λ ps. AreAlike ps (c ∷ d ∷ cs)) (sym (first_joined before c d cs l r joins breaks))
    (alike_more (str_width false (double c d)) c ((0, d) ∷ clusters (d ∷ c ∷ before) cs) (d ∷ cs) (control_leads c 13 (str_width false (double c d)) crlf.0 refl)
    (alike_more 0 d (clusters (d ∷ c ∷ before) cs) cs (control_leads d 10 0 crlf.1 refl) two))

alike_clusters : (before cs : List ℕ) → All (λ c. c < 128) cs → AreAlike (clusters before cs) cs
unfolding cut
alike_clusters before [] low = λ tab pen. (refl, λ char. refl)
alike_clusters before (c ∷ []) low =
    let lt = All-head (λ x. x < 128) c [] low in
    subst (λ ps. AreAlike ps (c ∷ [])) (sym (first_alone before c [] lt (breaks_at_end c before)))
    (alike_more (str_width false (single c)) c [] [] (λ h. width_single c (printable c lt h)) (λ tab pen. (refl, λ char. refl)))
alike_clusters before (c ∷ d ∷ cs) low =
    let more = All-tail (λ x. x < 128) c (d ∷ cs) low in
    let rest = All-tail (λ x. x < 128) d cs more in
    alike_pair before c d cs (is_grapheme_break true (c ∷ before) (d ∷ (cs ++ []))) refl (All-head (λ x. x < 128) c (d ∷ cs) low) (All-head (λ x. x < 128) d cs more) rest
    (alike_clusters (c ∷ before) (d ∷ cs) more) (alike_clusters (d ∷ c ∷ before) cs rest)

alike_text : (text : List ℕ) → All (λ c. c < 128) text → AreAlike (led_text text) text
unfolding segments
alike_text text low =
    subst (λ cs. AreAlike (flat_map led (map encode_utf8_all (cut (is_grapheme_break true) [] cs []))) text) (sym (chars-IsAscii text (IsAscii-from_all text low))) (alike_clusters [] text low)

-- a character of width 1 moves the pen as far as it is drawn
advance_drawn : (tab : ℕ) (escape : Bool) (column lead c : ℕ) → lead ≡ 1 → advance_of tab escape column lead c ≡ length (drawn_char tab (record { column = column; in_escape = escape }) c)
advance_drawn tab true column lead c one = refl
advance_drawn tab false column lead c one = not_tab (eqb c 9) refl
  where
    not_control : (b : Bool) → is_control c ≡ b → cond (is_control c) 1 lead ≡ 1
    not_control true e = rw e refl
    not_control false e = rw e one

    not_esc : (b : Bool) → eqb c 27 ≡ b → cond (eqb c 27) 0 (cond (is_control c) 1 lead) ≡ length (cond (eqb c 27) [] (c ∷ []))
    not_esc true e = rw e refl
    not_esc false e = rw e (not_control (is_control c) refl)

    not_tab : (b : Bool) → eqb c 9 ≡ b → cond (eqb c 9) (tab - column % tab) (cond (eqb c 27) 0 (cond (is_control c) 1 lead)) ≡ length (cond (eqb c 9) (replicate (tab - column % tab) 32) (cond (eqb c 27) [] (c ∷ [])))
    not_tab true e = rw e (sym (length-replicate (tab - column % tab) 32))
    not_tab false e = rw e (not_esc (eqb c 27) refl)

drawn_lone : (tab : ℕ) (pen : Pen) (cs : List ℕ) → (fold (moved tab) pen (map lone cs)).column ≡ pen.column + length (drawn_from tab pen (map lone cs))
drawn_lone tab pen [] = omega arith
drawn_lone tab pen (c ∷ cs) =
    let next = moved tab pen (lone c) in
    let rest = drawn_from tab next (map lone cs) in
    let joined : length (drawn_char tab pen c ++ rest) ≡ length (drawn_char tab pen c) + length rest = length-append (drawn_char tab pen c) rest in
    let step : next.column ≡ pen.column + length (drawn_char tab pen c) = ap (λ n. pen.column + n) (advance_drawn tab pen.in_escape pen.column 1 c refl) in
    omega (arith, drawn_lone tab next cs, step, joined)

ascii_low : (text : List ℕ) → IsAscii text → All (λ c. c < 128) text
ascii_low text ascii = All-from_get_or (λ c. c < 128) text 0 (λ i h. ascii i)

-- a text of ASCII is drawn by its clusters as by its bytes
pub walked_ascii : (tab : ℕ) (char : Pen → ℕ → List ℕ) (pen : Pen) (text : List ℕ) → IsAscii text → walked tab char pen (led_text text) ≡ walked tab char pen (map lone text)
walked_ascii tab char pen text ascii = (alike_text text (ascii_low text ascii) tab pen).1 char

pub drawn_walked : (tab : ℕ) (pen : Pen) (ps : List (ℕ × ℕ)) → drawn_from tab pen ps ≡ walked tab (drawn_char tab) pen ps
unfolding walked
drawn_walked tab pen [] = refl
drawn_walked tab pen (p ∷ ps) = ap (λ l. drawn_char tab pen p.1 ++ l) (drawn_walked tab (moved tab pen p) ps)

-- a text of ASCII is as wide as it is drawn
drawn_ascii : (tab : ℕ) (text : List ℕ) → IsAscii text → text_width tab text ≡ length (drawn_text tab text)
unfolding text_width drawn_text
drawn_ascii tab text ascii =
    let alike = alike_text text (ascii_low text ascii) tab at_margin in
    let drawn : drawn_from tab at_margin (led_text text) ≡ drawn_from tab at_margin (map lone text) =
    drawn_walked tab at_margin (led_text text) ∙ alike.1 (drawn_char tab) ∙ sym (drawn_walked tab at_margin (map lone text)) in
    omega (arith, ap (λ (pen : Pen). pen.column) alike.0, drawn_lone tab at_margin text, ap length drawn)

-- each place of a text of ASCII is a boundary
down_ascii : (text : List ℕ) (place : ℕ) → IsAscii text → place ≤ length text → boundary_down text place ≡ place
down_ascii text place ascii within =
    down_is text place place (omega arith) within (IsCharBoundary-from_ascii text place ascii within) (λ i low high. absurd (omega arith))

up_ascii : (text : List ℕ) (place : ℕ) → IsAscii text → place ≤ length text → boundary_up text place ≡ place
up_ascii text place ascii within =
    up_is text place place (omega arith) within (IsCharBoundary-from_ascii text place ascii within) (λ i low high. absurd (omega arith))

column_ascii : (tab : ℕ) (text : List ℕ) (place : ℕ) (at_start : Bool) → IsAscii text → place ≤ length text → column_in tab text place at_start ≡ text_width tab (take place text)
unfolding column_in
column_ascii tab text place true ascii within = rw (le-ltb (length text) place within, down_ascii text place ascii within) refl
column_ascii tab text place false ascii within = rw (le-ltb (length text) place within, up_ascii text place ascii within) refl

pub take_ascii : (text : List ℕ) (place : ℕ) → IsAscii text → IsAscii (take place text)
take_ascii text place ascii i = ⊎_elim (λ lt. rw (get_or-take place text i 0 lt) (ascii i)) (λ ge. let past : get_or (take place text) i 0 ≡ 0 = get_or_past (take place text) i 0 (omega (arith, length-take place text)) in omega (arith, past)) (cases_lt i place)

pub columns_are_drawn : (tab : ℕ) (row : RowView) → HasColumnsAsDrawn tab row
columns_are_drawn tab row ascii offset at_start from within =
    let place = offset - row.offset in
    column_ascii tab row.text place at_start ascii within
    ∙ drawn_ascii tab (take place row.text) (take_ascii row.text place ascii)

-- over a text of ASCII, the clusters lead to the same pen as the bytes
pub width_ascii : (tab : ℕ) (text : List ℕ) → IsAscii text → (pen_after tab at_margin text).column ≡ text_width tab text
unfolding text_width pen_after
width_ascii tab text ascii = ap (λ (pen : Pen). pen.column) (sym (alike_text text (ascii_low text ascii) tab at_margin).0)

-- one byte more, and none
pub pen_more : (tab : ℕ) (pen : Pen) (bytes : List ℕ) (i d : ℕ) → i < length bytes → pen_after tab (moved tab pen (1, get_or bytes i d)) (drop (i + 1) bytes) ≡ pen_after tab pen (drop i bytes)
unfolding pen_after
pen_more tab pen bytes i d lt = sym (at_drop_more (λ rest. fold (moved tab) pen (map lone rest)) bytes i d lt)

pub pen_done : (tab : ℕ) (pen : Pen) (bytes : List ℕ) (i : ℕ) → length bytes ≤ i → pen_after tab pen (drop i bytes) ≡ pen
unfolding pen_after
pen_done tab pen bytes i le = at_drop_all (λ rest. fold (moved tab) pen (map lone rest)) bytes i le

-- the pen goes on from one place of a text to a later one
pub pen_further : (tab : ℕ) (pen : Pen) (text : List ℕ) (at to : ℕ) → at ≤ to → pen_after tab (pen_after tab pen (take at text)) (slice_range text at to) ≡ pen_after tab pen (take to text)
unfolding pen_after
pen_further tab pen text at to le =
    sym (fold-append (moved tab) pen (map lone (take at text)) (map lone (slice_range text at to)))
    ∙ ap (fold (moved tab) pen) (sym (map-append lone (take at text) (slice_range text at to)))
    ∙ ap (λ bytes. fold (moved tab) pen (map lone bytes)) (sym (take_split text at to le))

-- bytes that are no tab and begin no escape move the pen by one each
abbrev outside : ℕ → Pen
outside column = record { column = column; in_escape = false }

one_step : (tab column b : ℕ) → (eqb b 0x09 || eqb b 0x1B) ≡ false → moved tab (outside column) (1, b) ≡ outside (column + 1)
one_step tab column b plain =
    let one : advance_of tab false column 1 b ≡ 1 = grind (arith, nat_tests) in
    let no_escape : eqb b 0x1B ≡ false = grind (arith, nat_tests) in
    ap (λ (a : ℕ). record { column = column + a; in_escape = eqb b 0x1B }) one
    ∙ ap (λ (e : Bool). record { column = column + 1; in_escape = e }) no_escape

pub pen_plain : (tab column : ℕ) (bytes : List ℕ) → All (λ byte. (eqb byte 0x09 || eqb byte 0x1B) ≡ false) bytes → pen_after tab (outside column) bytes ≡ outside (column + length bytes)
unfolding pen_after
pen_plain tab column [] all =
    let same : column ≡ column + 0 = omega arith in
    ap outside same
pen_plain tab column (b ∷ bytes) all =
    ap (λ pen. pen_after tab pen bytes) (one_step tab column b (All-head (λ byte. (eqb byte 0x09 || eqb byte 0x1B) ≡ false) b bytes all))
    ∙ pen_plain tab (column + 1) bytes (All-tail (λ byte. (eqb byte 0x09 || eqb byte 0x1B) ≡ false) b bytes all)
    ∙ ap outside (omega arith)

pub pen_jump : (tab : ℕ) (pen : Pen) (bytes : List ℕ) → pen.in_escape ≡ false → All (λ byte. (eqb byte 0x09 || eqb byte 0x1B) ≡ false) bytes
    → record { column = pen.column + length bytes; in_escape = false } ≡ pen_after tab pen bytes
pen_jump tab pen bytes out all =
    sym (pen_plain tab pen.column bytes all) ∙ ap (λ (e : Bool). pen_after tab (record { column = pen.column; in_escape = e }) bytes) (sym out)

-- a cluster of one byte
one_item : (xs : List ℕ) → length xs ≡ 1 → xs ≡ get_or xs 0 0 ∷ []
one_item [] e = absurd (omega arith)
one_item (x ∷ []) e = refl
one_item (x ∷ y ∷ xs) e = absurd (omega arith)

one_byte : (tab : ℕ) (pen : Pen) (b : ℕ) → b < 128 → fold (moved tab) pen (led (b ∷ [])) ≡ moved tab pen (1, b)
one_byte tab pen b lt =
    ap (λ (cs : List ℕ). fold (moved tab) pen (with_lead (str_width false cs) cs)) (chars-IsAscii (b ∷ []) (single_ascii b lt))
    ∙ same_step tab pen (str_width false (b ∷ [])) b (λ plain. width_single b (printable b lt plain))

pub over_byte : (tab : ℕ) (pen : Pen) (cluster : List ℕ) → length cluster ≡ 1 → get_or cluster 0 0 < 128 → moved tab pen (1, get_or cluster 0 0) ≡ fold (moved tab) pen (led cluster)
over_byte tab pen cluster e lt =
    sym (one_byte tab pen (get_or cluster 0 0) lt) ∙ ap (λ (cs : List ℕ). fold (moved tab) pen (led cs)) (sym (one_item cluster e))

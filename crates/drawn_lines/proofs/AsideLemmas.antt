-- What begins at a line is no note, whatever line comes behind it.
use Rattle.std.proofs.Common.{◌≡◌, ℕ, Bool, true, false, not, ◌&&◌, ◌==◌, List, [], ◌∷◌, length, map, Option, Some, None, option_map, refl, sym, ap, ap₂, ◌∙◌}
use Rattle.std.specs.Prelude.{option_and_then}
use Rattle.std.specs.Option.{is_some}
use Rattle.std.proofs.lemmas.Bool.{and_right}
use Rattle.line_shapes.specs.declared.tables.TheConstants.{ANNOUNCED}
use Rattle.line_shapes.specs.declared.tables.Manner.TheVariants.{Plain}
use Rattle.line_shapes.specs.Part.{Seen, before}
use Rattle.line_shapes.specs.Place.{Place}
use Rattle.line_shapes.specs.Said.{meant}
use Rattle.line_shapes.specs.Name.{ends_name, first_fault}
use Rattle.line_shapes.specs.Shape.{ShapeParts, first_named, first_own, own_at}
use Rattle.tool_lines.specs.Marks.{begins_blank, is_text}
use Rattle.tool_lines.specs.Lines.{FindingParts, announced, announced_by, arrow, arrows, begun, begun_of, below, inline, inline_or, is_heading, text_below, whole_among}
use Rattle.drawn_lines.specs.Seam.{OpensAlways, says_aside}

-- a line of a text, and an arrow
abbrev pub a_text : List ℕ
a_text = 0x20 ∷ 0x78 ∷ []

abbrev pub an_arrow : List ℕ
an_arrow = 0x2D ∷ 0x2D ∷ 0x3E ∷ 0x20 ∷ 0x61 ∷ 0x3A ∷ 0x31 ∷ 0x3A ∷ 0x31 ∷ []

text_is : is_text a_text ≡ true
text_is = refl

no_arrow : arrow a_text ≡ None
unfolding arrows
no_arrow = refl

arrow_is : is_some (arrow an_arrow) ≡ true
unfolding first_named own_at ends_name first_fault
arrow_is = refl

no_under : below a_text ≡ None
unfolding below
no_under = refl

not_announced : (line : List ℕ) → announced line (Some a_text) ≡ None
unfolding announced_by
not_announced line =
    ap (option_and_then (λ place. option_map (λ found. let f : FindingParts = record { place = place; says = meant Plain found } in f) (whole_among (map (λ shape. shape.1.now) ANNOUNCED) (before line))))
    no_arrow

no_heading : (line : List ℕ) → is_heading line (Some a_text) ≡ false
no_heading line = and_right (not (length line == 0) && not (begins_blank line)) (is_some (below a_text)) (ap is_some no_under)

of_inline : (i : Option FindingParts) → (begun_of None false i).finding ≡ i
of_inline None = refl
of_inline (Some finding) = refl

above_text : (shapes : List ShapeParts) (line : List ℕ) → (begun shapes line (Some a_text)).finding ≡ inline_or (first_own shapes line) line true
unfolding begun
above_text shapes line =
    ap₂ (λ a h. (begun_of a h (inline shapes line (Some a_text))).finding) (not_announced line) (no_heading line)
    ∙ (of_inline (inline shapes line (Some a_text)) ∙ ap (inline_or (first_own shapes line) line) text_is)

alone : (shapes : List ShapeParts) (line : List ℕ) → (begun shapes line None).finding ≡ inline_or (first_own shapes line) line false
unfolding begun
alone shapes line = of_inline (inline shapes line None)

inline_opens : (shapes : List ShapeParts) (line : List ℕ) → says_aside (begun shapes line None).finding ≡ false → says_aside (begun shapes line (Some a_text)).finding ≡ false
    → (more : Bool) → says_aside (inline_or (first_own shapes line) line more) ≡ false
inline_opens shapes line none text false = ap says_aside (sym (alone shapes line)) ∙ none
inline_opens shapes line none text true = ap says_aside (sym (above_text shapes line)) ∙ text

-- what is announced says the same, wherever it is
abbrev announced_at : Option Seen → Option Place → Option FindingParts
announced_at whole at = option_and_then (λ place. option_map (λ found. let f : FindingParts = record { place = place; says = meant Plain found } in f) whole) at

says_same : (whole : Option Seen) (a b : Option Place) → is_some a ≡ true → says_aside (announced_at whole a) ≡ false → says_aside (announced_at whole b) ≡ false
says_same whole a None some is = refl
says_same whole None (Some b) some is = cc
says_same None (Some a) (Some b) some is = refl
says_same (Some found) (Some a) (Some b) some is = is

announced_opens : (line : List ℕ) (next : Option (List ℕ)) → says_aside (announced line (Some an_arrow)) ≡ false → says_aside (announced line next) ≡ false
unfolding announced_by
announced_opens line None is = refl
announced_opens line (Some next) is =
    says_same (whole_among (map (λ shape. shape.1.now) ANNOUNCED) (before line)) (arrow an_arrow) (arrow next) arrow_is is

begun_opens : (a : Option FindingParts) (h : Bool) (i : Option FindingParts) → says_aside a ≡ false → says_aside i ≡ false → says_aside (begun_of a h i).finding ≡ false
begun_opens (Some finding) h i a_is i_is = a_is
begun_opens None true i a_is i_is = refl
begun_opens None false (Some finding) a_is i_is = i_is
begun_opens None false None a_is i_is = refl

pub opens_always : (shapes : List ShapeParts) (line : List ℕ) → says_aside (begun shapes line None).finding ≡ false → says_aside (begun shapes line (Some a_text)).finding ≡ false
    → says_aside (announced line (Some an_arrow)) ≡ false → OpensAlways shapes line
unfolding begun
opens_always shapes line none text arrow =
    λ next. begun_opens (announced line next) (is_heading line next) (inline shapes line next) (announced_opens line next arrow) (inline_opens shapes line none text (text_below next))

-- The parts of a shape.
use Rattle.std.proofs.Common.{◌≡◌, ℕ, ◌+◌, ◌==◌, ◌||◌, not, if◌then◌else◌, List, [], ◌∷◌, take, drop, Option, Some, None, Bool, true, false, cond, refl, sym, ap, ◌∙◌}
use Rattle.std.specs.List.{slice_index, prefix_len}
use Rattle.std.specs.Prelude.{nat_lt}
use Rattle.std.specs.Option.{option_map, option_and_then, unwrap_or}
use Rattle.line_shapes.specs.declared.bytes.Kind.{Kind}
use Rattle.line_shapes.specs.declared.bytes.Kind.TheVariants.{Blank, Digit, InProgram}
use Rattle.line_shapes.specs.declared.part.Figure.{Figure}
use Rattle.line_shapes.specs.declared.part.Figure.TheVariants.{Line, Column, EndLine, EndColumn}
use Rattle.line_shapes.specs.declared.part.Part.{Part}
use Rattle.line_shapes.specs.declared.part.Part.TheVariants.{AnyBlanks, SetApart, Byte, Blanks, Decimal, Program}
use Rattle.line_shapes.specs.Bytes.{is_in, some_run, value_of}
use Rattle.line_shapes.specs.Part.{Seen, behind, byte_taken, fit, is_program_start, is_quick, may_begin, past, past_byte, past_run, taken, with_figure}

pub no_run : (kind : Kind) (text : List ℕ) → is_in kind (slice_index text 0) ≡ false → prefix_len (is_in kind) text ≡ 0
no_run kind [] no_more = refl
no_run kind (x ∷ xs) no_more = ap (λ v. cond v (1 + prefix_len (is_in kind) xs) 0) no_more

pub figure_rest : (figure : Figure) (value : ℕ) (s : Seen) → (with_figure figure value s).rest ≡ s.rest
figure_rest Line value s = refl
figure_rest Column value s = refl
figure_rest EndLine value s = refl
figure_rest EndColumn value s = refl

-- what is left of what is found
abbrev pub left : Option Seen → List ℕ
left o = unwrap_or (option_map (λ (t : Seen). t.rest) o) []

past_this : (byte : ℕ) (text : List ℕ) (s t : Seen) → byte_taken byte text s ≡ Some t → past_byte byte text ≡ Some t.rest
past_this byte [] s t e = cc
past_this byte (x ∷ xs) s t e =
    elim (x == byte) as (λ v. (if v then Some (record s { rest = xs }) else None) ≡ Some t → (if v then Some xs else None) ≡ Some t.rest) [
      | true ↦ (λ e. ap (λ o. Some (left o)) e)
      | false ↦ (λ e. cc)
    ] e

-- a run that begins, where something is found behind it
past_some : (kind : Kind) (begins : Bool) (s t : Seen) (o : Option Seen) → o ≡ Some t → (begins ≡ false → o ≡ None) → drop (prefix_len (is_in kind) s.rest) s.rest ≡ t.rest → past_run kind begins s.rest ≡ Some t.rest
past_some kind true s t o e none is = ap (λ rest. Some rest) is
past_some kind false s t o e none is = let nothing : None ≡ Some t = sym (none refl) ∙ e in cc

blanks_left : (n : ℕ) (s t : Seen) → option_map (λ (count : ℕ). behind count s) (some_run n) ≡ Some t → drop n s.rest ≡ t.rest
blanks_left n s t e =
    elim (nat_lt 0 n) as (λ v. option_map (λ (count : ℕ). behind count s) (if v then Some n else None) ≡ Some t → drop n s.rest ≡ t.rest) [ true ↦ (λ e. ap left e) | false ↦ (λ e. cc) ] e

number_left : (figure : Figure) (n : ℕ) (value : Option ℕ) (s t : Seen) → option_map (λ (it : ℕ × ℕ). with_figure figure it.1 (behind it.0 s)) (option_map (λ (v : ℕ). (n, v)) value) ≡ Some t → drop n s.rest ≡ t.rest
number_left figure n None s t e = cc
number_left figure n (Some value) s t e = sym (figure_rest figure value (behind n s)) ∙ ap left e

program_left : (test : Bool) (n : ℕ) (s t : Seen) → (if test then Some (behind n s) else None) ≡ Some t → drop n s.rest ≡ t.rest
program_left true n s t e = ap left e
program_left false n s t e = cc

-- what stands behind a part that is taken
pub past_taken : (part : Part) (s t : Seen) → is_quick part ≡ true → taken part s ≡ Some t → past part s.rest ≡ Some t.rest
past_taken (Byte byte) s t quick e = past_this byte s.rest s t e
past_taken AnyBlanks s t quick e = ap (λ o. Some (left o)) e
past_taken SetApart s t quick e = ap (λ o. Some (left o)) e
past_taken Blanks s t quick e =
    past_some Blank (is_in Blank (slice_index s.rest 0)) s t (taken Blanks s) e
    (λ none. ap (λ n. option_map (λ (count : ℕ). behind count s) (some_run n)) (no_run Blank s.rest none))
    (blanks_left (prefix_len (is_in Blank) s.rest) s t e)
past_taken (Decimal figure) s t quick e =
    past_some Digit (is_in Digit (slice_index s.rest 0)) s t (taken (Decimal figure) s) e
    (λ none. ap (λ n. option_map (λ (it : ℕ × ℕ). with_figure figure it.1 (behind it.0 s)) (option_map (λ (value : ℕ). (n, value)) (value_of (take n s.rest)))) (no_run Digit s.rest none))
    (number_left figure (prefix_len (is_in Digit) s.rest) (value_of (take (prefix_len (is_in Digit) s.rest) s.rest)) s t e)
past_taken Program s t quick e =
    past_some InProgram (is_program_start (slice_index s.rest 0)) s t (taken Program s) e
    (λ none. ap (λ v. if v then Some (behind (prefix_len (is_in InProgram) s.rest) s) else None) none)
    (program_left (is_program_start (slice_index s.rest 0)) (prefix_len (is_in InProgram) s.rest) s t e)
past_taken part s t quick e = cc

not_behind : (quick : Bool) (parts : List Part) (text : List ℕ) (rest : Option (List ℕ)) → (quick ≡ true → rest ≡ Some text) → (not quick || unwrap_or (option_map (may_begin parts) rest) false) ≡ false → may_begin parts text ≡ false
not_behind true parts text rest is not_there = ap (λ o. unwrap_or (option_map (may_begin parts) o) false) (sym (is refl)) ∙ not_there
not_behind false parts text rest is not_there = cc

not_begun_by : (part : Part) (parts : List Part) (s : Seen) (o : Option Seen) → taken part s ≡ o → ((t : Seen) → may_begin parts t.rest ≡ false → fit parts t ≡ None) → may_begin (part ∷ parts) s.rest ≡ false → option_and_then (fit parts) o ≡ None
not_begun_by part parts s None is later not_there = refl
not_begun_by part parts s (Some t) is later not_there = later t (not_behind (is_quick part) parts t.rest (past part s.rest) (λ quick. past_taken part s t quick is) not_there)

-- what can't begin doesn't fit
pub not_begun : (parts : List Part) (s : Seen) → may_begin parts s.rest ≡ false → fit parts s ≡ None
not_begun [] s not_there = cc
not_begun (part ∷ parts) s not_there = not_begun_by part parts s (taken part s) refl (not_begun parts) not_there

-- One piece more that is walked.
use Rattle.std.proofs.Common.{◌≡◌, ℕ, ◌+◌, ◌-◌, ◌<◌, ◌≤◌, ◌&&◌, nat_le, not, if◌then◌else◌, Bor, Bool, true, false, List, [], ◌∷◌, ◌++◌, length, length-drop, take, drop, map, get_or, Option, Some, None, refl, sym, ap, ◌∙◌, subst, arith}
use Rattle.std.specs.Prelude.{IfSome}
use Rattle.std.specs.List.{drop-map}
use Rattle.std.proofs.lemmas.List.{take_more, drop_more, drop-drop, length-map, get_or-map, take-map}
use Rattle.std.proofs.lemmas.Bool.{and_parts, not-true}
use Rattle.std.proofs.lemmas.Bool.Decides.{nat_tests}
use Rattle.tool_lines.specs.declared.lines.Piece.{Piece}
use Rattle.tool_lines.specs.Lines.{PieceParts, piece_parts}
use Rattle.drawn_lines.specs.Parting.{is_blank, waits}
use Rattle.drawn_lines.specs.Seam.{IsFull, IsGap, IsSought, all_open, closes, ends_closed, opens, span}
use Rattle.drawn_lines.specs.declared.seam.Part.{Part}
use Rattle.drawn_lines.specs.declared.seam.Sought.{Sought}

abbrev texts : List (Bor (List ℕ)) → List (List ℕ)
texts lines = map (λ (line : Bor (List ℕ)). line.now) lines

pub sought_none : (lines : List (List ℕ)) (pieces : List PieceParts) (count : ℕ) → IsSought lines pieces count 0 (record { part = None; closed = true; blank = false })
sought_none lines pieces count = record { closed = refl; blank = refl; part = tt; full = tt }

pub span_push : (ps : List PieceParts) (p : PieceParts) → span (ps ++ p ∷ []) ≡ span ps + p.lines
span_push [] p = omega arith
span_push (q ∷ ps) p = omega (arith, span_push ps p)

pub closed_push : (closed : Bool) (ps : List PieceParts) (p : PieceParts) → ends_closed closed (ps ++ p ∷ []) ≡ closes p.begun.sort
closed_push closed [] p = refl
closed_push closed (q ∷ ps) p = closed_push (closes q.begun.sort) ps p

-- the last piece says whether these end with an empty line
waits_push : (before : Bool) (lines : List (List ℕ)) (ps : List PieceParts) (p : PieceParts) → waits before lines (ps ++ p ∷ []) ≡ is_blank (take p.lines (drop (span ps) lines)) p
waits_push before lines [] p = refl
waits_push before lines (q ∷ ps) p =
    waits_push (is_blank (take q.lines lines) q) (drop q.lines lines) ps p ∙ ap (λ ls. is_blank (take p.lines ls) p) (drop-drop (span ps) q.lines lines)

part_here : (pieces : List PieceParts) (count at left : ℕ) (closed : Bool) (p : PieceParts) → left ≡ count - span (take at pieces) → closed ≡ ends_closed true (take at pieces)
    → at < length pieces → drop at pieces ≡ p ∷ drop (at + 1) pieces → (closed && opens p && nat_le 2 left) ≡ true → IsGap pieces count (record { pieces = at; lines = count - left })
part_here pieces count at left closed p left_is closed_is inside rest may =
    let two : 2 ≤ left = grind (arith, nat_tests, (and_parts (closed && opens p) (nat_le 2 left) may).1) in
    record {
      room = omega (arith, left_is, two);
      closed = sym closed_is ∙ (and_parts closed (opens p) (and_parts (closed && opens p) (nat_le 2 left) may).0).0;
      open_behind = ap all_open rest ∙ (and_parts closed (opens p) (and_parts (closed && opens p) (nat_le 2 left) may).0).1;
      within = omega (arith, inside);
      lines_are = omega (arith, left_is, two);
    }

-- what holds of the place before a piece, if that is one, and of the last one before it, holds of what is sought
chosen : (P : Part → Type 0) (may : Bool) (here : Part) (part : Option Part) → (may ≡ true → P here) → IfSome part P → IfSome (if may then Some here else part) P
chosen P true here part is before = is refl
chosen P false here part is before = before

pub sought_next : (pieces : List Piece) (lines left : List (Bor (List ℕ))) (at here : ℕ) (other : Piece) (before next : Sought) → at < length pieces → here ≡ at → (let piece = get_or pieces at other in
    let ps = map piece_parts pieces in
    IsSought (texts lines) ps (length lines) at before → texts left ≡ drop (span (take at ps)) (texts lines)
    → next.part ≡ (if before.closed && opens (piece_parts piece) && nat_le 2 (length left) && not before.blank then Some (record { pieces = here; lines = length lines - length left }) else before.part)
    → next.closed ≡ closes piece.begun.sort → next.blank ≡ is_blank (texts (take piece.lines left)) (piece_parts piece) → IsSought (texts lines) ps (length lines) (at + 1) next)
sought_next pieces lines left at here other before next within same is left_is part closed blank =
    let piece : Piece = get_or pieces at other in
    let ps : List PieceParts = map piece_parts pieces in
    let ls : List (List ℕ) = texts lines in
    let p : PieceParts = piece_parts piece in
    let inside : at < length ps = omega (arith, within, length-map pieces piece_parts) in
    let at_is : get_or ps at p ≡ p = get_or-map piece_parts pieces at other p within in
    let taken : take (at + 1) ps ≡ take at ps ++ p ∷ [] = take_more ps at p inside ∙ ap (λ (q : PieceParts). take at ps ++ q ∷ []) at_is in
    let rest : drop at ps ≡ p ∷ drop (at + 1) ps = drop_more ps at p inside ∙ ap (λ (q : PieceParts). q ∷ drop (at + 1) ps) at_is in
    let some : length left ≡ length lines - span (take at ps) =
    sym (length-map left (λ (line : Bor (List ℕ)). line.now)) ∙ (ap (λ (all : List (List ℕ)). length all) left_is ∙ (length-drop (span (take at ps)) ls ∙ ap (λ n. n - span (take at ps)) (length-map lines (λ (line : Bor (List ℕ)). line.now)))) in
    let may : Bool = before.closed && opens p && nat_le 2 (length left) in
    let found : Part = record { pieces = at; lines = length lines - length left } in
    let part_is : next.part ≡ (if may && not before.blank then Some found else before.part) =
    part ∙ ap (λ n. if may && not before.blank then (let told : Option Part = Some (record { pieces = n; lines = length lines - length left }) in told) else before.part) same in
    record {
      closed = closed ∙ sym (ap (ends_closed true) taken ∙ closed_push true (take at ps) p);
      blank = blank ∙ (ap (λ run. is_blank run p) (sym (take-map (λ (line : Bor (List ℕ)). line.now) p.lines left) ∙ ap (take p.lines) left_is) ∙ sym (ap (waits false ls) taken ∙ waits_push false ls (take at ps) p));
      part = subst (λ o. IfSome o (IsGap ps (length lines))) (sym part_is)
          (chosen (IsGap ps (length lines)) (may && not before.blank) found before.part (λ e. part_here ps (length lines) at (length left) before.closed p some is.closed inside rest (and_parts may (not before.blank) e).0) is.part);
      full = subst (λ o. IfSome o (IsFull ls ps)) (sym part_is)
          (chosen (IsFull ls ps) (may && not before.blank) found before.part (λ e. sym is.blank ∙ not-true before.blank (and_parts may (not before.blank) e).1) is.full);
    }

-- the lines that are left behind a piece more
pub left_next : (pieces : List Piece) (lines left behind : List (Bor (List ℕ))) (at : ℕ) (other : Piece) → at < length pieces → behind ≡ drop (get_or pieces at other).lines left
    → texts left ≡ drop (span (take at (map piece_parts pieces))) (texts lines) → texts behind ≡ drop (span (take (at + 1) (map piece_parts pieces))) (texts lines)
left_next pieces lines left behind at other within behind_is left_is =
    let piece : Piece = get_or pieces at other in
    let ps : List PieceParts = map piece_parts pieces in
    let p : PieceParts = piece_parts piece in
    let inside : at < length ps = omega (arith, within, length-map pieces piece_parts) in
    let at_is : get_or ps at p ≡ p = get_or-map piece_parts pieces at other p within in
    let taken : take (at + 1) ps ≡ take at ps ++ p ∷ [] = take_more ps at p inside ∙ ap (λ (q : PieceParts). take at ps ++ q ∷ []) at_is in
    ap texts behind_is ∙ (sym (drop-map (λ (line : Bor (List ℕ)). line.now) p.lines left) ∙ (ap (drop p.lines) left_is
    ∙ (drop-drop p.lines (span (take at ps)) (texts lines) ∙ ap (λ n. drop n (texts lines)) (sym (ap span taken ∙ span_push (take at ps) p)))))

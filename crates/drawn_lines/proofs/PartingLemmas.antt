-- Empty lines that part, in parts of the pieces.
use Rattle.std.proofs.Common.{◌≡◌, ℕ, ◌+◌, ◌-◌, ◌&&◌, ◌≤◌, Bor, get_or, not, Bool, true, false, List, [], ◌∷◌, ◌++◌, length, map, take, drop, None, refl, sym, ap, ap₂, ◌∙◌, append_assoc, arith, length-drop}
use Rattle.std.specs.List.{drop-map}
use Rattle.std.proofs.lemmas.List.{drop-append-le, take-append-le, take-map, take_rest, drop-drop}
use Rattle.tool_lines.specs.declared.lines.Piece.{Piece}
use Rattle.tool_lines.specs.Lines.{PieceParts, is_kept, piece_parts}
use Rattle.drawn_lines.specs.Parting.{begins_passed, is_blank, passed_if, unparted, waits}
use Rattle.drawn_lines.specs.Seam.{BarePieces, all_open, opens, span}

-- ---- pieces in two parts

-- a piece that is no empty line stays, whatever comes behind it
no_blank : (is next other : Bool) (p : PieceParts) → is ≡ false → passed_if (is && next) p ≡ passed_if (is && other) p
no_blank true next other p never = cc
no_blank false next other p never = refl

pub unparted_parted : (before : Bool) (lines more : List (List ℕ)) (front ps : List PieceParts) → span front ≤ length lines → waits before lines front ≡ false
    → unparted (lines ++ more) (front ++ ps) ≡ unparted lines front ++ unparted (drop (span front) lines ++ more) ps
unparted_parted before lines more [] ps within full = refl
unparted_parted before lines more (p ∷ []) ps within full =
    let same : span (p ∷ []) ≡ p.lines = omega arith in
    ap₂ (λ run ls. passed_if (is_blank run p && begins_passed ps) p ∷ unparted ls ps) (take-append-le p.lines lines more (omega (arith, within))) (drop-append-le p.lines lines more (omega (arith, within)))
    ∙ ap₂ (λ (q : PieceParts) n. q ∷ unparted (drop n lines ++ more) ps) (no_blank (is_blank (take p.lines lines) p) (begins_passed ps) false p full) (sym same)
unparted_parted before lines more (p ∷ (q ∷ front)) ps within full =
    let left : List (List ℕ) = drop p.lines lines in
    let here : Bool = is_blank (take p.lines lines) p in
    ap₂ (λ run ls. passed_if (is_blank run p && begins_passed (q ∷ front)) p ∷ unparted ls ((q ∷ front) ++ ps))
    (take-append-le p.lines lines more (omega (arith, within))) (drop-append-le p.lines lines more (omega (arith, within)))
    ∙ ap (λ (qs : List PieceParts). passed_if (here && begins_passed (q ∷ front)) p ∷ qs)
    (unparted_parted here left more (q ∷ front) ps (omega (arith, within, length-drop p.lines lines)) full
    ∙ ap (λ ls. unparted left (q ∷ front) ++ unparted (ls ++ more) ps) (drop-drop (span (q ∷ front)) p.lines lines))

-- ---- what stays of them

one_span : (is : Bool) (p : PieceParts) → (passed_if is p).lines ≡ p.lines
one_span true p = refl
one_span false p = refl

pub unparted_span : (lines : List (List ℕ)) (ps : List PieceParts) → span (unparted lines ps) ≡ span ps
unparted_span lines [] = refl
unparted_span lines (p ∷ ps) = ap₂ (λ a b. a + b) (one_span (is_blank (take p.lines lines) p && begins_passed ps) p) (unparted_span (drop p.lines lines) ps)

one_open : (is : Bool) (p : PieceParts) → opens p ≡ true → opens (passed_if is p) ≡ true
one_open true p here = refl
one_open false p here = here

pub unparted_open : (lines : List (List ℕ)) (ps : List PieceParts) → all_open ps ≡ true → all_open (unparted lines ps) ≡ true
unparted_open lines [] here = refl
unparted_open lines (p ∷ ps) here = one_open (is_blank (take p.lines lines) p && begins_passed ps) p here

one_bare : (is : Bool) (p : PieceParts) → (is_kept p.begun.sort ≡ true → p.begun.finding ≡ None) → is_kept (passed_if is p).begun.sort ≡ true → (passed_if is p).begun.finding ≡ None
one_bare true p bare = λ kept. refl
one_bare false p bare = bare

pub unparted_bare : (lines : List (List ℕ)) (ps : List PieceParts) → BarePieces ps → BarePieces (unparted lines ps)
unparted_bare lines [] bare = tt
unparted_bare lines (p ∷ ps) bare = (one_bare (is_blank (take p.lines lines) p && begins_passed ps) p bare.0, unparted_bare (drop p.lines lines) ps bare.1)

-- ---- one step of a walk

abbrev texts : List (Bor (List ℕ)) → List (List ℕ)
texts lines = map (λ (line : Bor (List ℕ)). line.now) lines

-- the next of the pieces that are left, and those behind it
pub unparted_next : (left run behind : List (Bor (List ℕ))) (rest : List Piece) (other : Piece) → 1 ≤ length rest → run ≡ take (get_or rest 0 other).lines left → behind ≡ drop (get_or rest 0 other).lines left
    → unparted (texts left) (map piece_parts rest)
    ≡ passed_if (is_blank (texts run) (piece_parts (get_or rest 0 other)) && begins_passed (map piece_parts (take (length rest - 1) (drop 1 rest)))) (piece_parts (get_or rest 0 other))
    ∷ unparted (texts behind) (map piece_parts (take (length rest - 1) (drop 1 rest)))
unparted_next left run behind [] other some run_is behind_is = absurd (omega (arith, some))
unparted_next left run behind (p ∷ rest) other some run_is behind_is =
    let first : take p.lines (texts left) ≡ texts run = take-map (λ (line : Bor (List ℕ)). line.now) p.lines left ∙ ap texts (sym run_is) in
    let later : drop p.lines (texts left) ≡ texts behind = drop-map (λ (line : Bor (List ℕ)). line.now) p.lines left ∙ ap texts (sym behind_is) in
    ap₂ (λ r b. passed_if (is_blank r (piece_parts p) && begins_passed (map piece_parts rest)) (piece_parts p) ∷ unparted b (map piece_parts rest)) first later
    ∙ ap (λ ps. passed_if (is_blank (texts run) (piece_parts p) && begins_passed (map piece_parts ps)) (piece_parts p) ∷ unparted (texts behind) (map piece_parts ps)) (sym (take_rest (p ∷ rest) 1))

pub unparted_none : (lines : List (List ℕ)) (rest : List Piece) → length rest ≡ 0 → unparted lines (map piece_parts rest) ≡ []
unparted_none lines [] none = refl
unparted_none lines (p ∷ rest) none = absurd (omega (arith, none))

pub piece_pushed : (all now : List PieceParts) (first : PieceParts) (later whole : List PieceParts) → now ≡ all ++ first ∷ [] → whole ≡ first ∷ later → now ++ later ≡ all ++ whole
piece_pushed all now first later whole now_is whole_is =
    ap (λ ps. ps ++ later) now_is ∙ append_assoc all (first ∷ []) later ∙ ap (λ ps. all ++ ps) (sym whole_is)

pub waits_next : (before : Bool) (left run behind : List (Bor (List ℕ))) (rest : List Piece) (other : Piece) → 1 ≤ length rest → run ≡ take (get_or rest 0 other).lines left → behind ≡ drop (get_or rest 0 other).lines left
    → waits before (texts left) (map piece_parts rest)
    ≡ waits (is_blank (texts run) (piece_parts (get_or rest 0 other))) (texts behind) (map piece_parts (take (length rest - 1) (drop 1 rest)))
waits_next before left run behind [] other some run_is behind_is = absurd (omega (arith, some))
waits_next before left run behind (p ∷ rest) other some run_is behind_is =
    let first : take p.lines (texts left) ≡ texts run = take-map (λ (line : Bor (List ℕ)). line.now) p.lines left ∙ ap texts (sym run_is) in
    let later : drop p.lines (texts left) ≡ texts behind = drop-map (λ (line : Bor (List ℕ)). line.now) p.lines left ∙ ap texts (sym behind_is) in
    ap₂ (λ r b. waits (is_blank r (piece_parts p)) b (map piece_parts rest)) first later
    ∙ ap (λ ps. waits (is_blank (texts run) (piece_parts p)) (texts behind) (map piece_parts ps)) (sym (take_rest (p ∷ rest) 1))

pub waits_none : (before : Bool) (lines : List (List ℕ)) (rest : List Piece) → length rest ≡ 0 → waits before lines (map piece_parts rest) ≡ before
waits_none before lines [] none = refl
waits_none before lines (p ∷ rest) none = absurd (omega (arith, none))

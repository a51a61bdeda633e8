-- Pieces put down one by one.
use Rattle.std.proofs.Common.{◌≡◌, ℕ, ◌+◌, ◌<◌, ◌≤◌, true, false, List, [], ◌∷◌, ◌++◌, length, drop, get_or, leb, map, sym, ap, ◌∙◌, arith, append_assoc, if◌then◌else◌}
use Rattle.std.proofs.lemmas.List.{drop_more, drop_all}
use Rattle.std.proofs.lemmas.List.Sums.{sum_by-cons}
use Rattle.textwrap.specs.declared.lines.Line.{Line}
use Rattle.textwrap.specs.declared.pieces.Piece.{Piece}
use Rattle.textwrap.specs.Pieces.{PieceView, extent, piece_view}
use Rattle.textwrap.specs.Layout.{appended, line_behind, continued}

views_more : (pieces : List Piece) (i : ℕ) (d : Piece) → i < length pieces → map piece_view (drop i pieces) ≡ piece_view (get_or pieces i d) ∷ map piece_view (drop (i + 1) pieces)
views_more pieces i d lt = ap (map piece_view) (drop_more pieces i d lt)

-- one piece more is put down
pub continued_more : (done indent : List ℕ) (later : ℕ) (line next : Line) (pieces : List Piece) (i : ℕ) (d : Piece) → i < length pieces
    → next ≡ line_behind later line (piece_view (get_or pieces i d))
    → (done ++ appended indent line (piece_view (get_or pieces i d))) ++ continued indent later next (map piece_view (drop (i + 1) pieces))
    ≡ done ++ continued indent later line (map piece_view (drop i pieces))
unfolding continued
continued_more done indent later line next pieces i d lt is_next =
    let p : PieceView = piece_view (get_or pieces i d) in
    append_assoc done (appended indent line p) (continued indent later next (map piece_view (drop (i + 1) pieces)))
    ∙ ap (λ n. done ++ (appended indent line p ++ continued indent later n (map piece_view (drop (i + 1) pieces)))) is_next
    ∙ ap (λ ps. done ++ continued indent later line ps) (sym (views_more pieces i d lt))

pub continued_none : (done indent : List ℕ) (later : ℕ) (line : Line) (pieces : List Piece) (i : ℕ) → length pieces ≤ i
    → done ++ continued indent later line (map piece_view (drop i pieces)) ≡ done ++ []
unfolding continued
continued_none done indent later line pieces i le = ap (λ ps. done ++ continued indent later line (map piece_view ps)) (drop_all i pieces le)

pub extent_cons : (p : PieceView) (more : List PieceView) → extent (p ∷ more) ≡ p.width + p.gap + extent more
unfolding extent
extent_cons p more = sum_by-cons (λ q. q.width + q.gap) p more

pub extent_more : (pieces : List Piece) (i : ℕ) (d : Piece) → i < length pieces
    → extent (map piece_view (drop i pieces)) ≡ (get_or pieces i d).width + (get_or pieces i d).gap + extent (map piece_view (drop (i + 1) pieces))
extent_more pieces i d lt = ap extent (views_more pieces i d lt) ∙ extent_cons (piece_view (get_or pieces i d)) (map piece_view (drop (i + 1) pieces))

pub behind_small : (later : ℕ) (line : Line) (p : PieceView) → (line_behind later line p).used + (line_behind later line p).gap ≤ line.used + line.gap + p.width + p.gap
unfolding line_behind
behind_small later line p =
    elim (leb (line.used + line.gap + p.width) line.room) as (λ v.
    let next : Line = if v then record { room = line.room; used = line.used + line.gap + p.width; gap = p.gap } else record { room = later; used = p.width; gap = p.gap } in
    next.used + next.gap ≤ line.used + line.gap + p.width + p.gap) [
      | true ↦ omega arith
      | false ↦ omega arith
    ]

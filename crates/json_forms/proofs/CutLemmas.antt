-- The pieces so far are all of them.
use Rattle.std.proofs.Common.{◌≡◌, ℕ, List, [], ◌++◌, Option, sym, subst, append-nil}
use Rattle.json_forms.specs.declared.cut.Piece.{Piece}
use Rattle.json_forms.specs.Cut.{IsCut, end_of, next_piece}

pub finished : (bytes : List ℕ) (at : ℕ) (pieces : List Piece) (said unclosed : Option ℕ) → said ≡ unclosed
    → ((rest : List Piece) (left : Option ℕ) → IsCut bytes at rest left → IsCut bytes 0 (pieces ++ rest) left)
    → next_piece bytes at ≡ end_of unclosed → IsCut bytes 0 pieces said
finished bytes at pieces said unclosed same ahead next =
    subst (λ it. IsCut bytes 0 pieces it) (sym same) (subst (λ all. IsCut bytes 0 all unclosed) (append-nil pieces) (ahead [] unclosed next))

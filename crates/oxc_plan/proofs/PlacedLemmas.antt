-- The placed marks of cells are placed, and no others are.
use Rattle.std.proofs.Common.{◌≡◌, ℕ, ◌+◌, ◌/◌, ◌∙◌, List, [], ◌∷◌, refl, sym, ap, subst, max}
use Rattle.oxc_plan.specs.declared.marks.LabelCells.{LabelCells}
use Rattle.oxc_plan.specs.declared.marks.MarkCells.{MarkCells}
use Rattle.oxc_plan.specs.Marks.{mark_end, mark_of, placed_marks}
use Rattle.oxc_plan.specs.Placed.{ArePlaced, IsPlaced}

pub placed_are : (before : ℕ) (cells : List LabelCells) → ArePlaced before cells (placed_marks before cells)
unfolding placed_marks
placed_are before [] = tt
placed_are before (c ∷ cells) = (record { label = refl; start = refl; end = refl; bar = refl }, placed_are (mark_end before c) cells)

-- a placed mark is the one
mark_is : (before : ℕ) (c : LabelCells) (mark : MarkCells) → IsPlaced before c mark → mark ≡ mark_of before c
mark_is before c mark is =
    let end = is.end ∙ ap (λ s. max c.end (s + 1)) is.start in
    let bar = is.bar ∙ ap (λ s. (s + mark.end) / 2) is.start ∙ ap (λ e. (max c.start before + e) / 2) end in
    λ i. record { label = is.label i; start = is.start i; end = end i; bar = bar i }

pub placed_only : (before : ℕ) (cells : List LabelCells) (marks : List MarkCells) → ArePlaced before cells marks → marks ≡ placed_marks before cells
unfolding placed_marks
placed_only before [] [] are = refl
placed_only before [] (mark ∷ marks) are = absurd are
placed_only before (c ∷ cells) [] are = absurd are
placed_only before (c ∷ cells) (mark ∷ marks) are =
    let same = mark_is before c mark are.0 in
    let rest = placed_only mark.end cells marks are.1 in
    ap (λ m. m ∷ marks) same ∙ ap (λ l. mark_of before c ∷ l) (rest ∙ ap (λ (m : MarkCells). placed_marks m.end cells) same)

-- First fit is the division into lines.
use Rattle.std.proofs.Common.{◌≡◌, ℕ, ◌+◌, ◌-◌, ◌<◌, ◌≤◌, true, false, List, [], ◌∷◌, length, take, drop, get_or, leb, sum_by, refl, sym, ap, subst, ◌∙◌, arith, if◌then◌else◌}
use Rattle.std.proofs.lemmas.Bool.Decides.{nat_tests}
use Rattle.std.proofs.lemmas.List.{take_more, drop_more, length-drop}
use Rattle.std.proofs.lemmas.List.Sums.{sum_by_push}
use Rattle.textwrap.specs.Pieces.{PieceView}
use Rattle.textwrap.specs.Lines.{front_width, AreLines, joined, first_fit}

abbrev pub nothing : PieceView
nothing = record { text = []; width = 0; gap = 0 }

-- one piece more in a line that has some
front_width_next : (pieces : List PieceView) (n : ℕ) → 1 ≤ n → n < length pieces
    → front_width pieces (n + 1) ≡ front_width pieces n + (get_or pieces (n - 1) nothing).gap + (get_or pieces n nothing).width
unfolding front_width
front_width_next pieces n some lt =
    let widths : sum_by (λ p. p.width) (take (n + 1) pieces) ≡ sum_by (λ p. p.width) (take n pieces) + (get_or pieces n nothing).width =
    ap (sum_by (λ p. p.width)) (take_more pieces n nothing lt) ∙ sum_by_push (λ p. p.width) (take n pieces) (get_or pieces n nothing) in
    let gaps : sum_by (λ p. p.gap) (take (n - 1 + 1) pieces) ≡ sum_by (λ p. p.gap) (take (n - 1) pieces) + (get_or pieces (n - 1) nothing).gap =
    ap (sum_by (λ p. p.gap)) (take_more pieces (n - 1) nothing (omega arith)) ∙ sum_by_push (λ p. p.gap) (take (n - 1) pieces) (get_or pieces (n - 1) nothing) in
    let place : n + 1 - 1 ≡ n - 1 + 1 = omega arith in
    let moved : sum_by (λ p. p.gap) (take (n + 1 - 1) pieces) ≡ sum_by (λ p. p.gap) (take (n - 1) pieces) + (get_or pieces (n - 1) nothing).gap = ap (λ k. sum_by (λ p. p.gap) (take k pieces)) place ∙ gaps in
    omega (arith, widths, moved)

front_width_one : (p : PieceView) (more : List PieceView) → front_width (p ∷ more) 1 ≡ p.width
unfolding front_width
front_width_one p more = omega arith

-- what is known of the line so far
record IsSoFar (room used gap count : ℕ) (pieces rest : List PieceView) : Type 0 where
  some : 1 ≤ count
  within : count ≤ length pieces
  width : used ≡ front_width pieces count
  behind : gap ≡ (get_or pieces (count - 1) nothing).gap
  fits : 1 < count → used ≤ room
  left : drop count pieces ≡ rest

pub left_at : (pieces : List PieceView) (count : ℕ) (p : PieceView) (more : List PieceView) → drop count pieces ≡ p ∷ more → count < length pieces
left_at pieces count p more left = omega (arith, sym (length-drop count pieces) ∙ ap length left)

pub next_is : (pieces : List PieceView) (count : ℕ) (p : PieceView) (more : List PieceView) → drop count pieces ≡ p ∷ more → get_or pieces count nothing ≡ p
next_is pieces count p more left = ap (λ l. get_or l 0 nothing) (sym (drop_more pieces count nothing (left_at pieces count p more left)) ∙ left)

pub rest_is : (pieces : List PieceView) (count : ℕ) (p : PieceView) (more : List PieceView) → drop count pieces ≡ p ∷ more → drop (count + 1) pieces ≡ more
rest_is pieces count p more left = ap (λ l. drop 1 l) (sym (drop_more pieces count nothing (left_at pieces count p more left)) ∙ left)

wider : (used gap count : ℕ) (pieces : List PieceView) (p : PieceView) (more : List PieceView) → 1 ≤ count → used ≡ front_width pieces count → gap ≡ (get_or pieces (count - 1) nothing).gap → drop count pieces ≡ p ∷ more
    → front_width pieces (count + 1) ≡ used + gap + p.width
wider used gap count pieces p more some width behind left =
    let step = front_width_next pieces count some (left_at pieces count p more left) in
    let last : (get_or pieces count nothing).width ≡ p.width = ap (λ q. q.width) (next_is pieces count p more left) in
    omega (arith, step, last, width, behind)

joined_are : (room later used gap count : ℕ) (pieces rest : List PieceView) → IsSoFar room used gap count pieces rest → AreLines room later pieces (joined room later used gap count rest)
unfolding joined
joined_are room later used gap count pieces [] far =
    let gone : length (drop count pieces) ≡ 0 = ap length far.left in
    let size : length pieces - count ≡ 0 = sym (length-drop count pieces) ∙ gone in
    (record { some = far.some; within = far.within; fits = λ h. omega (arith, far.fits h, far.width); full = λ lt. absurd (omega arith) }, gone)
joined_are room later used gap count pieces (p ∷ more) far =
    let next = wider used gap count pieces p more far.some far.width far.behind far.left in
    let lt = left_at pieces count p more far.left in
    elim (leb (used + gap + p.width) room) as (λ v. leb (used + gap + p.width) room ≡ v
    → AreLines room later pieces (if v then joined room later (used + gap + p.width) p.gap (count + 1) more else count ∷ joined later later p.width p.gap 1 more)) [
      | true ↦ λ e.
          let place : count + 1 - 1 ≡ count = omega arith in
          joined_are room later (used + gap + p.width) p.gap (count + 1) pieces more (record {
            some = omega arith;
            within = omega arith;
            width = sym next;
            behind = sym (ap (λ q. q.gap) (ap (λ k. get_or pieces k nothing) place ∙ next_is pieces count p more far.left));
            fits = λ h. grind (arith, nat_tests);
            left = rest_is pieces count p more far.left;
          })
      | false ↦ λ e.
          let over : room < used + gap + p.width = grind (arith, nat_tests) in
          let rest = joined_are later later p.width p.gap 1 (p ∷ more) more (record {
            some = omega arith;
            within = omega arith;
            width = sym (front_width_one p more);
            behind = refl;
            fits = λ h. absurd (omega arith);
            left = refl;
          }) in (
            record { some = far.some; within = far.within; fits = λ h. omega (arith, far.fits h, far.width); full = λ h. omega (arith, next, over) },
            subst (λ l. AreLines later later l (joined later later p.width p.gap 1 more)) (sym far.left) rest,
          )
    ] refl

pub first_fit_is : (first later : ℕ) (pieces : List PieceView) → AreLines first later pieces (first_fit first later pieces)
unfolding first_fit
first_fit_is first later [] = refl
first_fit_is first later (p ∷ more) =
    joined_are first later p.width p.gap 1 (p ∷ more) more (record {
      some = omega arith;
      within = omega arith;
      width = sym (front_width_one p more);
      behind = refl;
      fits = λ h. absurd (omega arith);
      left = refl;
    })

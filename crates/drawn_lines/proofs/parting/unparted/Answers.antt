-- One piece more, and in the end all.
use Rattle.std.proofs.Common.{◌≡◌, ◌∙◌, ◌++◌, Bor, ℕ, List, map, sym, ap, append-nil, arith}
use Rattle.std.proofs.lemmas.Bool.Decides.{nat_tests}
use Rattle.tool_lines.specs.Lines.{piece_parts}
use Rattle.drawn_lines.proofs.PartingLemmas.{piece_pushed, unparted_next, unparted_none}
use Rattle.drawn_lines.proofs.parting.unparted.Goals as goal

pub loop-rest-preserved : goal.loop-rest-preserved
loop-rest-preserved c =
    let next = unparted_next c.loop-rest.left.now c.front.result.now c.behind-left.result.now c.loop-rest.rest.now _ c.in-len1-up.len_at_least c.front.ensures c.behind-left.ensures in
    piece_pushed (map piece_parts c.loop-rest.all.items) (map piece_parts c.push_next.new.all.items) _ _ _ c.in_ok-push_next.ensures next ∙ c.loop-rest.invariant

pub returns : goal.returns
returns c =
    let none = unparted_none (map (λ (line : Bor (List ℕ)). line.now) c.loop-rest.left.now) c.loop-rest.rest.now (grind (arith, nat_tests)) in
    let all = map piece_parts c.loop-rest.all.items in
    sym (append-nil all) ∙ ap (λ ps. all ++ ps) (sym none) ∙ c.loop-rest.invariant

-- One piece more decides, and in the end the last.
use Rattle.std.proofs.Common.{◌≡◌, ◌∙◌, ◌-◌, Bor, ℕ, List, map, length, take, drop, sym, ap, arith}
use Rattle.std.proofs.lemmas.Bool.Decides.{nat_tests}
use Rattle.tool_lines.specs.Lines.{piece_parts}
use Rattle.drawn_lines.specs.Parting.{waits}
use Rattle.drawn_lines.proofs.PartingLemmas.{waits_next, waits_none}
use Rattle.drawn_lines.proofs.parting.waits.Goals as goal

pub loop-rest-preserved : goal.loop-rest-preserved
loop-rest-preserved c =
    let rest = c.loop-rest.rest.now in
    let next = waits_next c.loop-rest.last c.loop-rest.left.now c.front.result.now c.behind-left.result.now rest _ c.in-len1-up.len_at_least c.front.ensures c.behind-left.ensures in
    ap (λ is. waits is (map (λ (line : Bor (List ℕ)). line.now) c.behind-left.result.now) (map piece_parts (take (length rest - 1) (drop 1 rest)))) c.is_blank-last.ensures
    ∙ sym next ∙ c.loop-rest.invariant

pub returns : goal.returns
returns c =
    sym (waits_none c.loop-rest.last (map (λ (line : Bor (List ℕ)). line.now) c.loop-rest.left.now) c.loop-rest.rest.now (grind (arith, nat_tests))) ∙ c.loop-rest.invariant

-- One piece more is walked, and in the end all are.
use Rattle.std.proofs.Common.{◌≡◌, ◌∙◌, [], IfOk, map, ap, sym, subst, arith}
use Rattle.std.proofs.lemmas.Bool.Decides.{nat_tests}
use Rattle.found_reports.specs.Listed.{held_in}
use Rattle.line_reports.specs.Pieces.{read_parts}
use Rattle.drawn_lines.specs.Counts.{count_of}
use Rattle.drawn_lines.specs.Walk.{counted_to, walked}
use Rattle.drawn_lines.proofs.PartLemmas.{all_placed}
use Rattle.drawn_lines.proofs.WalkLemmas.{first_of, nil_mapped, step_on}
use Rattle.drawn_lines.proofs.walk.in_place.Goals as goal

pub step-requires-clause-follows : goal.step-requires-clause-follows
step-requires-clause-follows c = c.loop-rest.invariant.follows ∙ first_of c.loop-rest.rest.now c.piece-item.result c.in-len1-up.len_at_least c.piece-item.is

pub loop-rest-preserved : goal.loop-rest-preserved
loop-rest-preserved c =
    let given = held_in c.args.sources.now.entries.items in
    record {
      drawn = c.in_ok-walk.ensures.unchanged ∙ c.loop-rest.invariant.drawn;
      follows = c.in_ok-walk.ensures.follows;
      walked = step_on (walked c.args.asked.now given c.in_ok-walk.walk) (walked c.args.asked.now given c.loop-rest.walk) c.loop-rest.rest.now c.piece-item.result _
          c.in-len1-up.len_at_least c.piece-item.is c.in_ok-walk.ensures.walked c.loop-rest.invariant.walked;
      counted = step_on (counted_to c.args.asked.now given c.in_ok-walk.walk) (counted_to c.args.asked.now given c.loop-rest.walk) c.loop-rest.rest.now c.piece-item.result _
          c.in-len1-up.len_at_least c.piece-item.is c.in_ok-walk.ensures.counted c.loop-rest.invariant.counted;
    }

pub returns-clause-count : goal.returns-clause-count
returns-clause-count c =
    let given = held_in c.args.sources.now.entries.items in
    let none : map read_parts c.loop-rest.rest.now ≡ [] = nil_mapped read_parts c.loop-rest.rest.now (grind (arith, nat_tests)) in
    subst (λ k. IfOk c.finish.result (λ it. it.count ≡ k))
    (ap (counted_to c.args.asked.now given c.loop-rest.walk) (sym none) ∙ c.loop-rest.invariant.counted
    ∙ ap (count_of c.args.asked.now) (all_placed c.args.asked.now given (map (λ line. line.now) c.args.lines.now) (map read_parts c.args.pieces.now) c.requires))
    c.finish.ensures.count

-- One piece more is compared, and in the end all are.
use Rattle.std.proofs.Common.{◌∙◌, ◌++◌, Bor, ℕ, List, map, sym, ap, arith}
use Rattle.std.proofs.lemmas.Bool.Decides.{nat_tests}
use Rattle.build_dirs.specs.Again.{seen_in}
use Rattle.drawn_lines.specs.Again.{flags_from, run_parts, seen_from}
use Rattle.drawn_lines.proofs.AgainLemmas.{flags_done, seen_done, signs_next, signs_none}
use Rattle.drawn_lines.proofs.again.compared.Goals as goal

pub loop-rest-preserved : goal.loop-rest-preserved
loop-rest-preserved c =
    let next = signs_next c.loop-rest.left.now c.front.result.now c.behind-left.result.now c.loop-rest.rest.now _ c.in-len1-up.len_at_least c.front.ensures c.behind-left.ensures in
    record {
      flags = c.in_ok-run.ensures.flags _ ∙ ap (λ ss. c.loop-rest.flags.items ++ flags_from (seen_in c.loop-rest.seen) (run_parts c.loop-rest.run) ss) (sym next) ∙ c.loop-rest.invariant.flags;
      seen = c.in_ok-run.ensures.seen _ ∙ ap (seen_from (seen_in c.loop-rest.seen) (run_parts c.loop-rest.run)) (sym next) ∙ c.loop-rest.invariant.seen;
    }

pub returns-clause-flags : goal.returns-clause-flags
returns-clause-flags c =
    let none = signs_none (map (λ (line : Bor (List ℕ)). line.now) c.loop-rest.left.now) c.loop-rest.rest.now (grind (arith, nat_tests)) in
    let seen = seen_in c.loop-rest.seen in
    let run = run_parts c.loop-rest.run in
    c.in_ok-close.ensures.flags ∙ ap (λ fs. c.loop-rest.flags.items ++ fs) (sym (flags_done seen run))
    ∙ ap (λ ss. c.loop-rest.flags.items ++ flags_from seen run ss) (sym none) ∙ c.loop-rest.invariant.flags

pub returns-clause-seen : goal.returns-clause-seen
returns-clause-seen c =
    let none = signs_none (map (λ (line : Bor (List ℕ)). line.now) c.loop-rest.left.now) c.loop-rest.rest.now (grind (arith, nat_tests)) in
    let seen = seen_in c.loop-rest.seen in
    let run = run_parts c.loop-rest.run in
    c.in_ok-close.ensures.seen ∙ sym (seen_done seen run) ∙ ap (seen_from seen run) (sym none) ∙ c.loop-rest.invariant.seen

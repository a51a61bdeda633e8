-- An entry is taken.
use Rattle.std.proofs.Common.{◌-◌, rules, arith, sym}
use Rattle.finding_filters.proofs.BaselineLemmas.{taken_one}
use Rattle.finding_filters.proofs.baseline.serve_one.Goals as goal

pub returns-then-count-eq0-clause-left : goal.returns-then-count-eq0-clause-left
returns-then-count-eq0-clause-left c =
    let n = c.in-Some.count.now in
    taken_one c.args.counts.now (c.get_mut.follows.lender n) c.args.class.now n n ((c.get_mut.follows.holds n).3 (search rules)) (sym c.in-Some.ensures.value) (omega (arith, c.if-count-eq0.true))

pub returns-clause-left : goal.returns-clause-left
returns-clause-left c =
    let n = c.in-Some.count.now in
    taken_one c.args.counts.now (c.get_mut.follows.lender (n - 1)) c.args.class.now (n - 1) n ((c.get_mut.follows.holds (n - 1)).3 (search rules)) (sym c.in-Some.ensures.value) (omega arith)

use Rattle.std.proofs.Common.{rules, arith, ◌≡◌, unwrap_or}
use Rattle.std.specs.BTreeMap.{get_by_text}
use Rattle.finding_filters.specs.Baseline.{left_in}
use Rattle.finding_filters.proofs.BaselineLemmas.{added}
use Rattle.finding_filters.proofs.baseline.add.Goals as goal

pub overflow_add-count : goal.overflow_add-count
unfolding left_in
overflow_add-count c =
    let small : c.unwrap_or-count.result ≡ unwrap_or (get_by_text c.args.counts.now c.args.class.now) 0 = search rules in
    omega (arith, small, c.requires)

pub returns : goal.returns
unfolding left_in
returns c = added c.args.counts.now c.insert.new.self c.args.class.now c.in_ok-key.key _ c.in_ok-insert.ensures.updates c.in_ok-key.ensures.ok (search rules)

-- The entries are counted.
use Rattle.std.proofs.Common.{◌≡◌, ◌+◌, map, drop, sym, ap, ◌∙◌, arith}
use Rattle.finding_filters.specs.Baseline.{Left, counted, counted_by, item_parts, left_in, offers}
use Rattle.finding_filters.proofs.BaselineLemmas.{counted_few, counted_step, empty_few, empty_left}
use Rattle.finding_filters.proofs.baseline.counts_of.Goals as goal

pub loop-entry-init : goal.loop-entry-init
loop-entry-init c =
    let none = empty_left c.new-counts.result c.new-counts.ensures.empty in record {
      counted = ap (λ (left : Left). counted left (map (offers c.args.round) (map item_parts c.args.entries.now))) none;
      few = empty_few (left_in c.new-counts.result) none;
    }

pub loop-entry-preserved : goal.loop-entry-preserved
loop-entry-preserved c =
    let entries = c.args.entries.now in
    let round = c.args.round in
    let i = c.loop-entry.entry-index in
    let item = c.entry-item.result in
    let old = left_in c.loop-entry.counts in
    let step : left_in c.count.new.counts ≡ counted_by old (offers round (item_parts item)) = c.in_ok-count.ensures ∙ ap (counted_by old) c.offered.ensures in
    let here = counted_step entries i item round old c.loop-entry-test.true in record {
      counted =
          ap (λ (left : Left). counted left (map (offers round) (map item_parts (drop (i + 1) entries)))) step
          ∙ ap (λ it. counted (counted_by old (offers round (item_parts it))) (map (offers round) (map item_parts (drop (i + 1) entries)))) c.entry-item.is ∙ sym here
          ∙ c.loop-entry.invariant.counted;
      few = λ q. omega (arith, ap (λ (f : Left). f q) step, counted_few old (offers round (item_parts item)) i c.loop-entry.invariant.few q);
    }

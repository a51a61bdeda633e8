use Rattle.std.proofs.Common.{arith, ap, ◌∙◌, ◌+◌, ◌-◌, ◌<◌, drop, length, subst}
use Rattle.std.proofs.lemmas.List.{length-drop, take_all}
use Rattle.oxc_windows.specs.Seen.{heads_before}
use Rattle.oxc_windows.proofs.GuessLemmas.{count_tail}
use Rattle.oxc_windows.proofs.seen.heads_before.Goals as goal

pub returns-then-at_or-to-clause-exact : goal.returns-then-at_or-to-clause-exact
returns-then-at_or-to-clause-exact c =
    let tail = c.saturating_sub-tail.result in
    let heads = c.args.heads.now in
    let low = subst (λ v. v < c.args.to) c.at_or.ensures c.if-at_or-to.true in
    ap (λ n. tail + n) c.count_before.ensures.exact
    ∙ ap (λ l. tail + heads_before l c.args.to) (take_all (length heads - tail) (drop tail heads) (omega (arith, length-drop tail heads)))
    ∙ count_tail heads tail c.args.to c.requires (omega (arith, c.saturating_sub-tail.ensures)) low (omega (arith, c.ranges.to))

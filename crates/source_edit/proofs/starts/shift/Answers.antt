use Rattle.std.proofs.Common.{◌≡◌, ℕ, ◌+◌, ◌-◌, ◌<◌, length, set, get_or, ap, ◌∙◌, arith}
use Rattle.source_edit.proofs.FoundLemmas.{set_next, next_is}
use Rattle.source_edit.proofs.starts.shift.Goals as goal

pub loop-start-preserved : goal.loop-start-preserved
loop-start-preserved c =
    let all = c.args.starts.now in
    let at = c.loop-start.start-index in
    let moved : ℕ → ℕ = λ start. start - c.args.lost + c.args.won in
    let within : at < length all = omega (arith, c.loop-start-test.true) in
    let here = c.start-item.result in
    let item : get_or c.loop-start.starts at here ≡ get_or all at here = ap (λ l. get_or l at here) c.loop-start.invariant ∙ next_is moved all at here within in
    ap (λ l. set l at c.new.result) c.loop-start.invariant
    ∙ set_next moved all at c.new.result here within (c.new.ensures ∙ ap moved (c.to_u32.ensures.number ∙ item))

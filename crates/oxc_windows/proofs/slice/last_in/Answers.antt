use Rattle.std.proofs.Common.{arith, ◌∙◌, sym}
use Rattle.std.proofs.lemmas.List.{length-take-le}
use Rattle.oxc_windows.proofs.SliceLemmas.{last_none, last_pair, last_some}
use Rattle.oxc_windows.proofs.slice.last_in.Goals as goal

pub returns-in_err-at-clause-value : goal.returns-in_err-at-clause-value
returns-in_err-at-clause-value c =
    let long = length-take-le c.args.to c.args.bytes.now c.requires.within in
    c.from_residual.ensures ∙ last_none c.args.bytes.now c.args.to c.requires.within (λ k low high. c.in_err-at.ensures k low (omega (arith, high, long)))

pub returns-in-Some-clause-value : goal.returns-in-Some-clause-value
returns-in-Some-clause-value c =
    let long = length-take-le c.args.to c.args.bytes.now c.requires.within in
    let last = c.in_ok-at.ensures in
    last_some c.args.bytes.now c.args.to c.in_ok-at.at c.in-Some.found (omega (arith, last.0.high, long)) c.requires.within c.requires.outside
    (λ k low high. last.0.after k low (omega (arith, high, long))) (sym c.break_starting.ensures ∙ c.in-Some.is)

pub returns-in-None-clause-value : goal.returns-in-None-clause-value
returns-in-None-clause-value c =
    let long = length-take-le c.args.to c.args.bytes.now c.requires.within in
    let last = c.in_ok-at.ensures in
    last_pair c.args.bytes.now c.args.to c.in_ok-at.at c.saturating_sub.result c.break_starting-in-None.result (omega (arith, last.0.high, long)) c.requires.within c.requires.outside
    (λ k low high. last.0.after k low (omega (arith, high, long))) last.1 (sym c.break_starting.ensures ∙ c.in-None.is) c.saturating_sub.ensures c.break_starting-in-None.ensures

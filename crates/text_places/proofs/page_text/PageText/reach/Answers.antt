use Rattle.std.proofs.Common.{arith, subst, ◌+◌}
use Rattle.std.specs.Str.{IsAscii}
use Rattle.std.specs.String.{string_bytes}
use Rattle.text_places.proofs.ScanLemmas.{ascii_before}
use Rattle.text_places.proofs.ListedLemmas.{ascii_reach}
use Rattle.text_places.proofs.page_text.PageText.reach.Goals as goal

pub returns-then-self-clause-last : goal.returns-then-self-clause-last
returns-then-self-clause-last c =
    let ascii = subst (λ s. IsAscii (string_bytes s)) c.self.view_is (c.self.invariant.0 c.if-self.true) in
    ascii_reach c.args.encoding (string_bytes c.args.self.now) c.args.from c.args.to c.args.most c.min-step.result ascii c.requires.ordered c.requires.within
    (omega (arith, c.min-step.ensures)) (omega (arith, c.min-step.ensures)) (λ lt. omega (arith, c.min-step.ensures, lt))

pub returns-then-self-clause-left : goal.returns-then-self-clause-left
returns-then-self-clause-left c =
    let ascii = subst (λ s. IsAscii (string_bytes s)) c.self.view_is (c.self.invariant.0 c.if-self.true) in
    let bytes = string_bytes c.args.self.now in
    omega (
      arith,
      c.min-step.ensures,
      ascii_before c.args.encoding bytes c.args.from ascii (omega (arith, c.requires.ordered, c.requires.within)),
      ascii_before c.args.encoding bytes (c.args.from + c.min-step.result) ascii (omega (arith, c.min-step.ensures, c.requires.ordered, c.requires.within)),
    )

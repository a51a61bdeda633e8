use Rattle.std.proofs.Common.{◌∙◌, ap, length, sym, subst, arith, IfSome}
use Rattle.std.specs.Str.{IsUtf8}
use Rattle.oxc_windows.specs.Scan.{KeepsUpTo}
use Rattle.oxc_windows.proofs.ReadLemmas.{read_known}
use Rattle.oxc_plan.proofs.ScannedLemmas.{first_is, first_kept, keeps_read, on_read}
use Rattle.oxc_plan.proofs.reading.read.Goals as goal

pub returns-clause-exact : goal.returns-clause-exact
returns-clause-exact c =
    rw (c.requires.round.before, c.requires.round.after) at (read_known c.args.scanner.now c.args.span c.in-Some.contents (sym c.in_ok-contents.ensures.read.value ∙ c.in-Some.is))

pub returns-clause-text : goal.returns-clause-text
returns-clause-text c text =
    subst (λ found. IfSome found (λ contents. IsUtf8 contents.bytes)) c.in-Some.is
    (c.in_ok-contents.ensures.read.text (record { text = text; before = omega (arith, c.requires.round.before); after = omega (arith, c.requires.round.after) }))

pub returns-clause-stays : goal.returns-clause-stays
returns-clause-stays c =
    on_read c.args.scanner.now c.read_span.new.self c.in_ok-contents.ensures.read.unchanged
    (λ f e. c.in_ok-contents.ensures.read.first ∙ first_kept (length c.args.scanner.now.input) c.args.scanner.now.first c.args.span.start c.args.span.end f e)
    c.in_ok-contents.ensures.read.stay c.in_ok-contents.ensures.read.kept

pub returns-clause-first : goal.returns-clause-first
returns-clause-first c =
    c.in_ok-contents.ensures.read.first ∙ first_is (length c.args.scanner.now.input) c.args.scanner.now.first c.args.span.start c.args.span.end c.requires.within

pub returns-clause-keeps : goal.returns-clause-keeps
returns-clause-keeps c =
    keeps_read c.args.scanner.now c.read_span.new.self c.args.span.start _ c.requires.round c.in_ok-contents.ensures.read.unchanged (returns-clause-first c)
    (λ f e le. subst (KeepsUpTo c.read_span.new.self) (ap (λ v. v.span.end) (returns-clause-exact c))
    (subst (λ found. IfSome found (λ contents. KeepsUpTo c.read_span.new.self contents.span.end)) c.in-Some.is (c.in_ok-contents.ensures.read.held f e le)))

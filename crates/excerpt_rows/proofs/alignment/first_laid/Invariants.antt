use Rattle.excerpt_rows.specs.Alignment.{NoneLaid}
use Rattle.excerpt_rows.proofs.alignment.first_laid.Given as goal

abbrev pub invariant-loop-rule : goal.invariant-loop-rule
invariant-loop-rule l = NoneLaid l.rules l.rule-index l.printed l.source

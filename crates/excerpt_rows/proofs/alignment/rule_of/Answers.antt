-- One rule stands for all.
use Rattle.std.proofs.Common.{sym}
use Rattle.excerpt_rows.proofs.AlignmentLemmas.{differs, plain_found}
use Rattle.excerpt_rows.proofs.alignment.rule_of.Goals as goal

pub returns-then-is_plain : goal.returns-then-is_plain
returns-then-is_plain c =
    plain_found c.first_laid.result c.args.rules.now c.args.printed.now c.args.source.now c.requires.some (sym c.if-is_plain.ensures)
    (differs c.args.printed.now c.args.source.now c.eq.result c.eq.ensures c.if-eq.false) c.first_laid.ensures

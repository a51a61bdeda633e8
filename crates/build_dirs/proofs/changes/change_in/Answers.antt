-- Each part of the line.
use Rattle.std.proofs.Common.{sym, ap, not, ◌∙◌}
use Rattle.build_dirs.proofs.ChangeLemmas.{is_change, no_colon, not_head, not_path, not_verb}
use Rattle.build_dirs.proofs.QuoteLemmas.{no_change, quiet, unchanged}
use Rattle.build_dirs.proofs.changes.change_in.Goals as goal

pub returns-then-is_none-clause-says : goal.returns-then-is_none-clause-says
returns-then-is_none-clause-says c = no_change c.args.line.now (quiet c.args.line.now c.before_quote.result c.before_quote.ensures.says (c.is_none.ensures ∙ ap not c.if-is_none.true))

pub returns-then-is_none-clause-value : goal.returns-then-is_none-clause-value
returns-then-is_none-clause-value c = sym (unchanged c.args.line.now (quiet c.args.line.now c.before_quote.result c.before_quote.ensures.says (c.is_none.ensures ∙ ap not c.if-is_none.true)))

pub returns-in_default-clause-says : goal.returns-in_default-clause-says
returns-in_default-clause-says c = no_colon c.args.line.now (sym c.in_default.ensures)

pub returns-in_default-head_of-clause-says : goal.returns-in_default-head_of-clause-says
returns-in_default-head_of-clause-says c = not_head c.args.line.now c.in-Some.head.now c.in-Some.says.now (sym c.in-Some.ensures) c.in_default-head_of.ensures.says

pub returns-in_default-verb_of-clause-says : goal.returns-in_default-verb_of-clause-says
returns-in_default-verb_of-clause-says c = not_verb c.args.line.now c.in-Some.head.now c.in-Some.says.now (sym c.in-Some.ensures) c.in_default-verb_of.ensures.says

pub returns-in_default-path_of-clause-says : goal.returns-in_default-path_of-clause-says
returns-in_default-path_of-clause-says c =
    not_path c.args.line.now c.in-Some.head.now c.in-Some.says.now c.in-Some-verb_of.quoted.now c.in-Some-verb_of.opens (sym c.in-Some.ensures) c.in-Some-verb_of.ensures.says c.in_default-path_of.ensures.says

pub returns-clause-says : goal.returns-clause-says
returns-clause-says c =
    is_change c.args.line.now c.in-Some.head.now c.in-Some.says.now c.in-Some-verb_of.quoted.now c.in-Some-head_of.program.now c.in-Some-path_of.path.now c.in-Some-head_of.level c.in-Some-verb_of.opens
    (sym c.in-Some.ensures) c.in-Some-head_of.ensures.says c.in-Some-verb_of.ensures.says c.in-Some-path_of.ensures.says

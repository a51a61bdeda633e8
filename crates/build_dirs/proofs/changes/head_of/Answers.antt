-- The program, and what is in brackets.
use Rattle.std.proofs.Common.{sym, ◌∙◌}
use Rattle.build_dirs.proofs.ChangeLemmas.{is_bracket_head, no_bracket, no_number, no_plain_head, no_program}
use Rattle.build_dirs.proofs.changes.head_of.Goals as goal

pub returns-else-is_program-clause-says : goal.returns-else-is_program-clause-says
returns-else-is_program-clause-says c = no_plain_head c.args.head.now (sym c.in_default.ensures) (sym c.is_program.ensures ∙ c.if-is_program.false)

pub returns-then-not-is_program-clause-says : goal.returns-then-not-is_program-clause-says
returns-then-not-is_program-clause-says c = no_program c.args.head.now c.in-Some.program.now c.in-Some.rest.now (sym c.in-Some.ensures) (sym c.is_program-2.ensures ∙ c.if-not-is_program.true)

pub returns-in_default-without_last-clause-says : goal.returns-in_default-without_last-clause-says
returns-in_default-without_last-clause-says c = no_bracket c.args.head.now c.in-Some.program.now c.in-Some.rest.now (sym c.in-Some.ensures) (sym c.in_default-without_last.ensures)

pub returns-in-Some-number-clause-says : goal.returns-in-Some-number-clause-says
returns-in-Some-number-clause-says c =
    is_bracket_head c.args.head.now c.in-Some.program.now c.in-Some.rest.now c.in-Some-without_last.digits.now c.in-Some-number.level (sym c.in-Some.ensures)
    (sym c.is_program-2.ensures ∙ c.if-not-is_program.false) (sym c.in-Some-without_last.ensures) (sym c.in-Some-number.ensures.value)

pub returns-in-None-clause-says : goal.returns-in-None-clause-says
returns-in-None-clause-says c =
    no_number c.args.head.now c.in-Some.program.now c.in-Some.rest.now c.in-Some-without_last.digits.now (sym c.in-Some.ensures) (sym c.in-Some-without_last.ensures) (sym c.in-None.ensures.value)

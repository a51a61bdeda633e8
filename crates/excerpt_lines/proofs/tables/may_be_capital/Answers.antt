use Rattle.std.proofs.Common.{◌∙◌, sym, arith}
use Rattle.std.proofs.lemmas.List.{get_or_read}
use Rattle.excerpt_lines.proofs.TableLemmas.{other_capital, short_capital}
use Rattle.excerpt_lines.proofs.tables.may_be_capital.Goals as goal

pub returns-in-empty : goal.returns-in-empty
returns-in-empty c = λ _. short_capital c.args.text.now (omega (arith, c.in-empty.len_below))

pub returns-in-len1-up : goal.returns-in-len1-up
returns-in-len1-up c = λ e.
    other_capital c.args.text.now c.c-item.result (omega (arith, c.in-len1-up.len_at_least))
    (get_or_read c.args.text.now 0 c.c-item.result (omega (arith, c.in-len1-up.len_at_least)) c.c-item.is 0) (sym c.is_capital_head.ensures ∙ e)

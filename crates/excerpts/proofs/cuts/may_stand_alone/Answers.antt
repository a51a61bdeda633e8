use Rattle.std.proofs.Common.{◌∙◌, sym, arith}
use Rattle.std.proofs.lemmas.List.{get_or_read}
use Rattle.excerpts.proofs.CutLemmas.{other_alone, short_alone}
use Rattle.excerpts.proofs.cuts.may_stand_alone.Goals as goal

pub returns-in-empty : goal.returns-in-empty
returns-in-empty c = λ _. short_alone c.args.line.now (omega (arith, c.in-empty.len_below))

pub returns-in-len1-up : goal.returns-in-len1-up
returns-in-len1-up c = λ e.
    other_alone c.args.line.now c.c-item.result (omega (arith, c.in-len1-up.len_at_least))
    (get_or_read c.args.line.now 0 c.c-item.result (omega (arith, c.in-len1-up.len_at_least)) c.c-item.is 0) (sym c.is_alone_head.ensures ∙ e)

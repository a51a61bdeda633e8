-- Past the end of the row there is nothing to mark.
use Rattle.std.proofs.Common.{length, ap, ◌∙◌, ◌||◌, Bool, get_or, arith}
use Rattle.excerpt_rows.proofs.HunkLemmas.{mark_end, mark_within}
use Rattle.excerpt_rows.proofs.hunk.mark.Goals as goal

pub returns : goal.returns
returns c = λ k d within.
    c.loop-k.invariant.each k d within ∙ ap (λ (b : Bool). get_or c.args.flags.now k d || b) (mark_end c.args.start k c.loop-k.k c.args.end (λ low less. mark_within c.args.start k c.loop-k.k c.args.end (length c.args.flags.now) low less (omega arith) c.loop-k.invariant.none) (λ low less. omega (arith, c.min-k-end.ensures)))

use Rattle.escapes.proofs.CutLemmas.{cut_is}
use Rattle.escapes.proofs.cuts.cut.Goals as goal

pub returns : goal.returns
returns c = cut_is c.args.delimiter c.args.text.now c.split_once.result (c.split_once.ensures.byte c.requires (λ w o found. found))

-- No text is drawn.
use Rattle.drawn_lines.proofs.ComingLemmas.{nothing_drawn}
use Rattle.drawn_lines.proofs.coming.unchanged.Goals as goal

pub returns : goal.returns
returns c = λ told asked taken text aside coming.
    nothing_drawn told asked taken text aside _ _ c.args.held c.args.tally c.new.ensures.bytes c.new-2.ensures.bytes coming

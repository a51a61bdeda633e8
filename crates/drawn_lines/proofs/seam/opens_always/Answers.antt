-- None of the three is a note.
use Rattle.std.proofs.Common.{map, ap, sym, ◌∙◌}
use Rattle.std.proofs.lemmas.Bool.{not-true}
use Rattle.line_shapes.specs.Shape.{shape_parts}
use Rattle.tool_lines.specs.Lines.{BegunParts}
use Rattle.drawn_lines.specs.Seam.{says_aside}
use Rattle.drawn_lines.proofs.AsideLemmas.{opens_always}
use Rattle.drawn_lines.proofs.seam.opens_always.Goals as goal

pub returns : goal.returns
returns c = λ is.
    opens_always (map shape_parts c.args.shapes.now) c.args.line.now
    (ap (λ (begun : BegunParts). says_aside begun.finding) (sym c.what_begins.ensures) ∙ (sym c.says_aside.ensures ∙ c.if-says_aside.false))
    (ap (λ (begun : BegunParts). says_aside begun.finding) (sym c.what_begins-2.ensures) ∙ (sym c.says_aside-2.ensures ∙ c.if-says_aside-2.false))
    (ap says_aside (sym c.announced.ensures) ∙ (sym c.says_aside-3.ensures ∙ not-true c.says_aside-3.result is))

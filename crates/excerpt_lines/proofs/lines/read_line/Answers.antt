-- Items that cover a line lose nothing of it, and are disjoint.
use Rattle.excerpt_lines.proofs.ItemLemmas.{covered, disjoint, ink_is_kept}
use Rattle.excerpt_lines.proofs.lines.read_line.Goals as goal

pub returns-clause-nothing_lost : goal.returns-clause-nothing_lost
returns-clause-nothing_lost c =
    let all = covered c.args.line.now c.args.hung.now _ _ c.in_ok-items.ensures in ink_is_kept c.args.line.now all.0 c.args.hung.now _ all.1

pub returns-clause-disjoint : goal.returns-clause-disjoint
returns-clause-disjoint c =
    let all = covered c.args.line.now c.args.hung.now _ _ c.in_ok-items.ensures in disjoint c.args.line.now all.0 c.args.hung.now 0 _ all.1

-- No line turns, so no name changes.
use Rattle.drawn_lines.proofs.NamedLemmas.{keeps_names}
use Rattle.drawn_lines.proofs.naming.names_are_kept.Goals as goal

pub returns : goal.returns
returns c = keeps_names

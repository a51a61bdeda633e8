-- All lines one after another are the source.
use Rattle.codespan.proofs.LinesLemmas.{lines_join}
use Rattle.codespan.proofs.file.Files.line_span.Goals as goal

pub returns-clause-joined : goal.returns-clause-joined
returns-clause-joined g c = lines_join _

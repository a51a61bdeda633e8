-- A line does not end before it starts.
use Rattle.codespan.proofs.LinesLemmas.{start_le_next}
use Rattle.codespan.proofs.file.File.line_span.Goals as goal

pub new-requires : goal.new-requires
new-requires g c =
    rw (c.line_start.ensures, c.line_start-2.ensures, c.to_usize-line.ensures) (start_le_next (g.Source.SourceText.text c.args.self.now.source) c.args.line_index.0)

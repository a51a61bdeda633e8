-- A line starts at a boundary, no later than the places in it.
use Rattle.std.proofs.Common.{◌∙◌}
use Rattle.codespan.proofs.LinesLemmas.{start_le_place, start_boundary_at}
use Rattle.codespan.proofs.file.File.location.Goals as goal

pub characters_between-column-requires-clause-order : goal.characters_between-column-requires-clause-order
characters_between-column-requires-clause-order g c =
    rw (c.to_usize-start.ensures, c.line_start.ensures, c.to_usize.ensures, c.to_usize-place.ensures)
    (start_le_place (g.Source.SourceText.text c.args.self.now.source) c.args.byte_index.0 c.line_index-line.result.0 c.line_index-line.ensures)

pub characters_between-column-requires-clause-start : goal.characters_between-column-requires-clause-start
characters_between-column-requires-clause-start g c =
    start_boundary_at _ _ c.to_usize.result _ c.text-2.ensures (c.to_usize-start.ensures ∙ c.line_start.ensures) c.text-2.utf8

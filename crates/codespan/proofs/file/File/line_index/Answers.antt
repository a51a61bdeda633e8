-- The index of the file is that of its source.
use Rattle.std.proofs.Common.{map, ap, ◌∙◌, arith}
use Rattle.codespan.proofs.LinesLemmas.{index_rises, index_line, index_fits}
use Rattle.codespan.proofs.file.File.line_index.Goals as goal

pub line_in-requires : goal.line_in-requires
line_in-requires g c = index_rises _ _ (ap (map (λ start. start.0)) c.as_slice.ensures.value ∙ c.args.self.now.indexed)

pub overflow_cast-result : goal.overflow_cast-result
overflow_cast-result g c =
    let is = ap (map (λ start. start.0)) c.as_slice.ensures.value ∙ c.args.self.now.indexed in
    omega (arith, c.line_in.ensures, index_fits _ _ c.args.byte_index.0 is c.args.self.now.fits)

pub returns : goal.returns
returns g c = c.line_in.ensures ∙ index_line _ _ c.args.byte_index.0 (ap (map (λ start. start.0)) c.as_slice.ensures.value ∙ c.args.self.now.indexed)

-- Each file carries the fact that its source fits.
use Rattle.std.proofs.Common.{slice_index_or}
use Rattle.std.proofs.lemmas.List.Elements.{All-map}
use Rattle.codespan.specs.Texts.{Fits}
use Rattle.codespan.proofs.file.Files.contains.Goals as goal

pub returns-clause-fits : goal.returns-clause-fits
returns-clause-fits g c =
    rw (← c.self.view_is)
    (All-map (λ file. Fits file.text) _ c.self.inside.files.items (λ k d _. (slice_index_or c.self.inside.files.items k d).fits))

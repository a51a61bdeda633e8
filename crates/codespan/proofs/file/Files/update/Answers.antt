-- The file has its old name and the new source.
use Rattle.std.proofs.Common.{refl, string_bytes}
use Rattle.codespan.proofs.TextsLemmas.{replaced}
use Rattle.codespan.proofs.file.Files.update.Goals as goal

pub returns-clause-updated : goal.returns-clause-updated
returns-clause-updated g c =
    replaced (λ file. record { name = string_bytes file.name; text = g.Source.SourceText.text file.source }) c.self.inside.files.items
    _ c.get.result c.args.file_id c.index_mut-file.result.now _ c.self.view_is c.get.ensures c.requires c.index_mut-file.ensures.value refl

use Rattle.std.proofs.Common.{arith, ap, length, ◌∙◌}
use Rattle.source_location.proofs.IndexLemmas.{start_at}
use Rattle.utf16_places.specs.Index.{Utf16View}
use Rattle.utf16_places.proofs.index.Utf16Index.line_start.Goals as goal

pub returns : goal.returns
returns c text known =
    let same = ap (λ (v : Utf16View). v.line_starts) c.self.view_is in
    c.index.ensures ∙ start_at c.self.inside.line_starts.items text c.args.line c.index.result.now (same ∙ known.starts) (omega (arith, c.requires, ap length same))

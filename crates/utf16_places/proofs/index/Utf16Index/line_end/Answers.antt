use Rattle.std.proofs.Common.{arith, ap, ◌∙◌}
use Rattle.utf16_places.specs.Index.{Utf16View}
use Rattle.utf16_places.proofs.PlaceLemmas.{line_end-at, line_end-past}
use Rattle.utf16_places.proofs.index.Utf16Index.line_end.Goals as goal

pub returns-then-line-len : goal.returns-then-line-len
returns-then-line-len c text known =
    let same = ap (λ (v : Utf16View). v.line_breaks) c.self.view_is in
    c.index.ensures ∙ line_end-at c.self.inside.line_breaks.items text c.args.line c.index.result.now (same ∙ known.breaks) (omega (arith, c.if-line-len.true, c.len.ensures))

pub returns-else-line-len : goal.returns-else-line-len
returns-else-line-len c text known =
    let same = ap (λ (v : Utf16View). v.line_breaks) c.self.view_is in
    ap (λ (v : Utf16View). v.end) c.self.view_is ∙ known.end ∙ line_end-past c.self.inside.line_breaks.items text c.args.line (same ∙ known.breaks) (omega (arith, c.if-line-len.false, c.len.ensures))

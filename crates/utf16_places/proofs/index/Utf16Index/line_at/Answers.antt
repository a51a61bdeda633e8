use Rattle.std.proofs.Common.{arith, ap, length, ◌∙◌, count_by, leb}
use Rattle.source_location.proofs.IndexLemmas.{count_starts, few_starts}
use Rattle.source_location.specs.Breaks.{breaks_of}
use Rattle.utf16_places.specs.Index.{Utf16View}
use Rattle.utf16_places.proofs.ViewLemmas.{starts_ascend}
use Rattle.utf16_places.proofs.index.Utf16Index.line_at.Goals as goal

pub lines_started-requires-clause-rise : goal.lines_started-requires-clause-rise
lines_started-requires-clause-rise c = starts_ascend c.as_slice.result.now c.self.invariant.text (c.as_slice.ensures.value ∙ c.self.invariant.known.starts)

pub returns-clause-line : goal.returns-clause-line
returns-clause-line c text known =
    let same = c.as_slice.ensures.value ∙ ap (λ (v : Utf16View). v.line_starts) c.self.view_is ∙ known.starts in
    omega (arith, c.lines_started.ensures.counted, ap (count_by (λ s. leb s c.args.offset)) same, count_starts (breaks_of text) c.args.offset)

pub returns-clause-few : goal.returns-clause-few
returns-clause-few c =
    omega (
      arith,
      few_starts c.self.inside.line_starts.items c.self.invariant.text c.self.invariant.known.starts,
      c.self.invariant.known.fits,
      ap (λ (v : Utf16View). length v.line_starts) c.self.view_is,
    )

use Rattle.std.proofs.Common.{◌≡◌, arith, ap, subst, sym, length, ◌∙◌, get_or}
use Rattle.source_location.specs.Breaks.{LineBreak, breaks_of}
use Rattle.utf16_places.specs.Index.{Utf16View}
use Rattle.utf16_places.specs.Parts.{IsLastIn}
use Rattle.utf16_places.proofs.ViewLemmas.{line_count}
use Rattle.utf16_places.proofs.PlaceLemmas.{next_start, break_ends, text_ends}
use Rattle.utf16_places.proofs.index.Utf16Index.last_boundary_of.Goals as goal

none : LineBreak
none = record { start = 0; end = 0 }

pub sub-requires : goal.sub-requires
sub-requires c =
    omega (
      arith,
      c.new.ensures,
      c.index.ensures,
      (next_start c.self.inside.line_starts.items c.self.invariant.text c.args.line c.index.result.now none c.self.invariant.known.starts (omega (arith, c.if-line-lines.true, c.len-lines.ensures))).1,
    )

pub returns-then-line-lines : goal.returns-then-line-lines
returns-then-line-lines c text known =
    let starts = ap (λ (v : Utf16View). v.line_starts) c.self.view_is ∙ known.starts in
    let next = next_start c.self.inside.line_starts.items text c.args.line c.index.result.now none starts (omega (arith, c.if-line-lines.true, c.len-lines.ensures)) in
    let place : c.sub.result ≡ (get_or (breaks_of text) c.args.line none).end = omega (arith, c.sub.ensures, c.new.ensures, c.index.ensures, next.1) in
    subst (λ o. IsLastIn text c.args.line o) (sym place) (break_ends text c.args.line none known.wide.utf8 next.0)

pub returns-else-line-lines : goal.returns-else-line-lines
returns-else-line-lines c text known =
    let same = ap (λ (v : Utf16View). v.line_starts) c.self.view_is in
    let count = line_count c.self.inside.line_starts.items text (same ∙ known.starts) in
    subst (λ o. IsLastIn text c.args.line o) (sym (ap (λ (v : Utf16View). v.end) c.self.view_is ∙ known.end))
    (text_ends text c.args.line (omega (arith, c.requires, ap length same, count, c.if-line-lines.false, c.len-lines.ensures)))

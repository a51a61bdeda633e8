use Rattle.std.proofs.Common.{◌-◌, ap, subst, sym}
use Rattle.std.specs.Str.{IsCharBoundary}
use Rattle.source_location.proofs.LocationsLemmas.{row_start_boundary}
use Rattle.source_location.proofs.SourceCode.line_text.Goals as goal

pub slice-requires-clause-start : goal.slice-requires-clause-start
slice-requires-clause-start c =
    subst (λ at. IsCharBoundary c.text-text.result.now at) (sym (ap (λ range. range.0) c.line_range.ensures)) (row_start_boundary c.text-text.result.now (c.args.index - 1) c.text-text.utf8)

pub slice-requires-clause-end : goal.slice-requires-clause-end
slice-requires-clause-end c =
    subst (λ at. IsCharBoundary c.text-text.result.now at) (sym (ap (λ range. range.1) c.line_range.ensures)) (row_start_boundary c.text-text.result.now c.args.index c.text-text.utf8)

-- One piece more.
use Rattle.std.proofs.Common.{◌+◌, Bor, ℕ, List, None, length, map, refl, ap}
use Rattle.tool_lines.specs.declared.lines.Sort.TheVariants.{Kept}
use Rattle.tool_lines.specs.declared.lines.Piece.{Piece}
use Rattle.tool_lines.specs.Lines.{piece_parts}
use Rattle.drawn_lines.proofs.SoughtLemmas.{left_next, sought_next, sought_none}
use Rattle.drawn_lines.proofs.seam.gap_in.Goals as goal

abbrev none : Piece
none = record { lines = 0; begun = record { sort = Kept; finding = None } }

pub loop-piece-init : goal.loop-piece-init
loop-piece-init c = (refl, refl, sought_none (map (λ (line : Bor (List ℕ)). line.now) c.args.lines.now) (map piece_parts c.args.pieces.now) (length c.args.lines.now))

pub loop-piece-preserved : goal.loop-piece-preserved
loop-piece-preserved c =
    let sought = c.past-sought.ensures in (
      ap (λ n. n + 1) c.loop-piece.invariant.0,
      left_next c.args.pieces.now c.args.lines.now c.loop-piece.left.now c.behind-left.result.now c.loop-piece.piece-index none c.loop-piece-test.true c.behind-left.ensures
          c.loop-piece.invariant.1,
      sought_next c.args.pieces.now c.args.lines.now c.loop-piece.left.now c.loop-piece.piece-index c.loop-piece.at none c.loop-piece.sought c.past-sought.result
          c.loop-piece-test.true c.loop-piece.invariant.0 c.loop-piece.invariant.2 c.loop-piece.invariant.1 sought.part sought.closed sought.blank,
    )

-- One block more.
use Rattle.std.proofs.Common.{ℕ, List, Bor, map, ap, ◌∙◌}
use Rattle.std.specs.Prelude.{Vec}
use Rattle.std.specs.declared.alloc.Global.{Global}
use Rattle.excerpts.specs.Body.{block_of}
use Rattle.line_reports.specs.declared.placed.Placed.{Placed}
use Rattle.line_reports.specs.Drawings.{PlacedStand, drawings_parts, placed_if, placed_parts}
use Rattle.line_reports.proofs.DrawingLemmas.{block_stands, drawn_more, mapped}
use Rattle.line_reports.proofs.drawings.drawings_of.Goals as goal

pub loop-rest-preserved : goal.loop-rest-preserved
loop-rest-preserved c =
    let text : List ℕ = c.args.source.now.text.now in
    let lines : List (List ℕ) = map (λ (line : Bor (List ℕ)). line.now) c.args.lines.now in
    record {
      stand = block_stands text (drawings_parts c.loop-rest.drawings) (drawings_parts c.add.new.self) _ c.in_ok-add.ensures c.loop-rest.invariant.stand
          (mapped (λ (it : Vec Placed Global). map placed_parts it.items) (PlacedStand text) c.in_ok-labels.labels c.in_ok-labels.ensures.stand);
      shown = drawn_more text c.args.aim lines c.loop-rest.flags_left.now c.tail-flags_left.result.now c.loop-rest.rest.now c.block-item.result (drawings_parts c.loop-rest.drawings) (drawings_parts c.add.new.self) _ _
          c.in-len1-up.len_at_least c.block-item.is (c.in_ok-labels.ensures.placed ∙ ap (λ flag. placed_if flag text c.args.aim lines (block_of c.block-item.result)) c.flag.ensures) c.in_ok-add.ensures c.tail-flags_left.ensures c.loop-rest.invariant.shown;
    }

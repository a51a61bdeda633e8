use Rattle.std.proofs.Common.{◌≡◌, ◌++◌, map, option_map, length}
use Rattle.oxc_span.specs.Views.{text_bytes}
use Rattle.excerpts.specs.Body.{block_of}
use Rattle.found_reports.specs.Listed.{held_in}
use Rattle.line_reports.specs.Asides.{AsidesStand, aside_parts, asides_from}
use Rattle.line_reports.proofs.asides.asides_at.Given as goal

abbrev pub invariant-loop-rest : goal.invariant-loop-rest
invariant-loop-rest l =
    let told = held_in l.sources.entries.items in
    let lines = map (λ line. line.now) l.lines in
    record {
      stand : AsidesStand told (map (option_map aside_parts) l.all.items);
      asides : map (option_map aside_parts) l.all.items ++ asides_from told lines (map text_bytes l.names_left) (map block_of l.rest) ≡ asides_from told lines (map text_bytes l.names) (map block_of l.blocks);
    }

abbrev pub decreases-loop-rest : goal.decreases-loop-rest
decreases-loop-rest l = length l.rest

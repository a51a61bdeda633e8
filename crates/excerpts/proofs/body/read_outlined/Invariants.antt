use Rattle.std.proofs.Common.{◌≤◌, ◌-◌, drop, length, map}
use Rattle.excerpts.specs.Body.{block_of}
use Rattle.excerpts.proofs.BodyLemmas.{ReadSoFar}
use Rattle.excerpts.proofs.body.read_outlined.Given as goal

abbrev pub invariant-loop-next : goal.invariant-loop-next
invariant-loop-next l = record {
  within : l.next ≤ length l.lines;
  so_far : let all = map (λ line. line.now) l.lines in
      ReadSoFar l.spot all l.outlines l.next (drop l.next all) (drop l.next l.outlines) l.state l.excerpt.parts.items (map block_of l.excerpt.blocks.items);
}

abbrev pub decreases-loop-next : goal.decreases-loop-next
decreases-loop-next l = length l.lines - l.next

-- A turn of the loop over the lines.
use Rattle.std.proofs.Common.{arith}
use Rattle.std.proofs.lemmas.List.{length-map}
use Rattle.changed_rows.proofs.ReadingLemmas.{first_and_rest, others_length, read_turn}
use Rattle.changed_rows.proofs.diff.read_lines.Goals as goal

pub loop-rest-preserved : goal.loop-rest-preserved
loop-rest-preserved c =
    let others = others_length c.loop-rest.rest.now c.in-len1-up.len_at_least in record {
      read =
          read_turn c.args.strip c.loop-rest.row _ _ c.in_ok-taken.taken _ _ _ _ _ c.in_ok-taken.ensures.read (simp length-map c.in_ok-taken.ensures.within)
          (first_and_rest c.loop-rest.rest.now _ c.in-len1-up.len_at_least) c.lines_from-rest.ensures.lines c.loop-rest.invariant.read;
      row = omega (arith, others, c.lines_from-rest.ensures.count, c.loop-rest.invariant.row, c.in-len1-up.len_at_least);
    }

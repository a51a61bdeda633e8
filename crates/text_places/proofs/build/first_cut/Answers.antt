use Rattle.std.proofs.Common.{arith}
use Rattle.text_places.proofs.BuildLemmas.{floor_near}
use Rattle.text_places.proofs.build.first_cut.Goals as goal

pub returns : goal.returns
returns c =
    let near = floor_near c.args.text.now 768 c.floor_char_boundary.result c.utf8.text (omega arith) c.floor_char_boundary.ensures.nearest in
    record {
      least = omega (arith, near, c.clean_cut.ensures.near);
      most = omega (arith, c.clean_cut.ensures.upto, c.floor_char_boundary.ensures.bound);
      rest = omega (arith, c.clean_cut.ensures.upto, c.floor_char_boundary.ensures.bound, c.requires);
      boundary = c.clean_cut.ensures.boundary;
      clean = c.clean_cut.ensures.clean;
    }

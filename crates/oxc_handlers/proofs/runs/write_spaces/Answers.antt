use Rattle.std.proofs.Common.{refl}
use Rattle.oxc_handlers.specs.Cells.{repeated}
use Rattle.oxc_handlers.proofs.runs.write_spaces.Goals as goal

pub front_of-requires-clause-block : goal.front_of-requires-clause-block
unfolding repeated lib.Utf8.encode
front_of-requires-clause-block c = refl

pub write_blocks-requires : goal.write_blocks-requires
unfolding repeated lib.Utf8.encode
write_blocks-requires c = refl

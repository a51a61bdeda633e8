use Rattle.std.proofs.Common.{string_bytes, map, ap, ◌∙◌}
use Rattle.textwrap.specs.Pieces.{piece_view}
use Rattle.textwrap.proofs.FilledLemmas.{part_step}
use Rattle.textwrap.proofs.filling.push_part.Goals as goal

pub returns : goal.returns
returns c =
    let told =
    part_step (string_bytes c.args.out.now) (string_bytes c.push_str.new.self) c.args.options.now.width c.args.indent.now c.args.options.now.subsequent_indent.now c.args.part.now c.room_behind-first.result c.room_behind-later.result
    (map piece_view c.deref.result.now) c.in_ok-push_str.ensures.bytes c.room_behind-first.ensures c.room_behind-later.ensures (ap (map piece_view) c.deref.ensures.value ∙ c.in_ok-pieces.ensures.pieces) in
    rw told at c.push_pieces.ensures

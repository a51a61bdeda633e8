use Rattle.std.proofs.Common.{map, ap, ◌∙◌}
use Rattle.tool_lines.specs.Lines.{piece_parts}
use Rattle.fed_lines.specs.Feed.{known_piece}
use Rattle.fed_lines.specs.Held.{held_lines, held_name, held_shapes}
use Rattle.fed_lines.proofs.FeedLemmas.{first_known}
use Rattle.fed_lines.proofs.lines.Lines.known.Goals as goal

pub returns-clause-first : goal.returns-clause-first
returns-clause-first c =
    let self = c.args.self.now in
    first_known piece_parts (held_shapes self) (held_name self) (held_lines self) c.known_among.result
    (c.known_among.ensures.piece
    ∙ (ap (λ name. known_piece (held_shapes self) name (map (λ line. line.items) c.as_slice.result.now)) c.lent.ensures
    ∙ ap (λ lines. known_piece (held_shapes self) (held_name self) (map (λ line. line.items) lines)) c.as_slice.ensures.value))

use Rattle.std.proofs.Common.{string_bytes}
use Rattle.tool_lines.specs.Lines.{piece_parts}
use Rattle.drawn_lines.proofs.LineLemmas.{kept_more}
use Rattle.drawn_lines.proofs.kept.keep_next.Goals as goal

pub returns : goal.returns
returns c = λ rest.
    kept_more c.args.asked.now (string_bytes c.args.so_far.text) (string_bytes c.push_kept.new.text) (piece_parts c.args.piece.now) c.front.result.now
    c.args.so_far.left.now c.behind-left.result.now rest c.front.ensures c.behind-left.ensures c.in_ok-push_kept.ensures

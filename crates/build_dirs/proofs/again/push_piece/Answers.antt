-- The path, and then the lines.
use Rattle.std.proofs.lemmas.Result.{on_ok_weaker}
use Rattle.build_dirs.proofs.AgainLemmas.{piece_pushed}
use Rattle.build_dirs.proofs.again.push_piece.Goals as goal

pub returns : goal.returns
returns c =
    on_ok_weaker c.push_rows.result (λ new_is. piece_pushed c.args.path.now c.args.lines.now _ _ _ c.in_ok-push_bytes.ensures new_is) c.push_rows.ensures

use Rattle.std.proofs.Common.{◌≡◌, map, take}
use Rattle.std.specs.String.{string_bytes}
use Rattle.build_dirs.specs.Again.{key_text, piece_of}
use Rattle.build_dirs.proofs.again.key_of.Given as goal

abbrev pub invariant-loop-piece : goal.invariant-loop-piece
invariant-loop-piece l = string_bytes l.key ≡ key_text (map piece_of (take l.piece-index l.pieces))

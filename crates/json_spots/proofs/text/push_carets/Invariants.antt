-- So many are written.
use Rattle.std.proofs.Common.{◌≡◌, ◌++◌, replicate, string_bytes}
use Rattle.json_spots.proofs.text.push_carets.Given as goal

abbrev pub invariant-loop-caret : goal.invariant-loop-caret
invariant-loop-caret l = string_bytes l.out ≡ string_bytes l.fn.out ++ replicate l._caret 0x5E

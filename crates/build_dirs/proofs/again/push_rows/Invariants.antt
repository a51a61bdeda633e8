use Rattle.std.proofs.Common.{◌≡◌, ◌++◌, map, take}
use Rattle.std.specs.Str.Lossy.{utf8_lossy}
use Rattle.std.specs.String.{string_bytes}
use Rattle.build_dirs.specs.Again.{key_lines, tagged}
use Rattle.build_dirs.proofs.again.push_rows.Given as goal

abbrev pub invariant-loop-line : goal.invariant-loop-line
invariant-loop-line l = string_bytes l.key ≡ string_bytes l.initial.key ++ key_lines (map (λ line. tagged 0x20 (utf8_lossy line.now)) (take l.line-index l.lines))

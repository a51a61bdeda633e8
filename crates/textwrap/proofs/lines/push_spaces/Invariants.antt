use Rattle.std.proofs.Common.{◌≡◌, ◌++◌, string_bytes}
use Rattle.textwrap.specs.Filled.{spaces}
use Rattle.textwrap.proofs.lines.push_spaces.Given as goal

abbrev pub invariant-loop-i : goal.invariant-loop-i
invariant-loop-i l = string_bytes l.out ≡ string_bytes l.initial.out ++ spaces l._i

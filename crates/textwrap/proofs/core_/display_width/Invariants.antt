use Rattle.std.proofs.Common.{◌≡◌, ◌+◌, ◌*◌, ◌≤◌, fold, length}
use Rattle.std.specs.Str.{chars, IsUtf8}
use Rattle.std.specs.Str.Iter.{chars_rest}
use Rattle.textwrap.specs.Width.{moved, pen_behind}
use Rattle.textwrap.proofs.core_.display_width.Given as goal

-- what is left of the text leads to the same pen, and there is room for it
abbrev pub invariant-loop-c : goal.invariant-loop-c
invariant-loop-c l =
    let rest = chars_rest l.c-iterator in
    record {
      can_next : (goal.iterator-loop-c).can_next l.c-iterator;
      is_finite : (goal.iterator-loop-c).is_finite l.c-iterator;
      text : IsUtf8 rest;
      ahead : fold moved l.pen (chars rest) ≡ pen_behind l.text;
      room : l.pen.width + 2 * length rest ≤ 2 * length l.text;
    }

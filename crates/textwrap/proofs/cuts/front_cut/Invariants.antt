use Rattle.std.proofs.Common.{◌≡◌, ◌+◌, ◌*◌, ◌≤◌, length, take, drop, ltb}
use Rattle.std.specs.Str.{chars, IsUtf8, IsCharBoundary}
use Rattle.std.specs.Str.Iter.{chars_rest}
use Rattle.textwrap.specs.Width.{pen_behind}
use Rattle.textwrap.specs.Cuts.{before_first, cuts_behind, cuts}
use Rattle.textwrap.proofs.cuts.front_cut.Given as goal

-- the front so far and what is cut from the rest are what is cut from the text
abbrev pub invariant-loop-c : goal.invariant-loop-c
invariant-loop-c l =
    let rest = chars_rest l.c-iterator in
    record {
      can_next : (goal.iterator-loop-c).can_next l.c-iterator;
      is_finite : (goal.iterator-loop-c).is_finite l.c-iterator;
      place : drop l.len l.text ≡ rest;
      within : l.len ≤ length l.text;
      boundary : IsCharBoundary l.text l.len;
      text : IsUtf8 (drop l.len l.text);
      pen : l.pen ≡ pen_behind (take l.len l.text);
      ahead : before_first (take l.len l.text) (cuts_behind l.room (ltb 0 l.len) l.pen (chars (drop l.len l.text))) ≡ cuts l.room l.text;
      room : l.pen.width + 2 * length rest ≤ 2 * length l.text;
    }

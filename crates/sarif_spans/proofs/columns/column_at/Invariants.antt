-- What is left of the row, and of the columns.
use Rattle.std.proofs.Common.{◌≡◌, ◌+◌, ◌-◌, drop}
use Rattle.std.specs.Str.{IsUtf8, IsCharBoundary, chars}
use Rattle.std.specs.Str.Iter.{chars_rest}
use Rattle.sarif_spans.specs.Span.{fitting}
use Rattle.sarif_spans.proofs.columns.column_at.Given as goal

abbrev pub invariant-loop-c : goal.invariant-loop-c
invariant-loop-c l =
    let rest = chars_rest l.c-iterator in
    record {
      can_next : (goal.iterator-loop-c).can_next l.c-iterator;
      is_finite : (goal.iterator-loop-c).is_finite l.c-iterator;
      utf8 : IsUtf8 rest;
      place : drop l.at l.row ≡ rest;
      boundary : IsCharBoundary l.row l.at;
      value : l.at + fitting l.kind l.left (chars rest) ≡ fitting l.kind (l.column - 1) (chars l.row);
    }

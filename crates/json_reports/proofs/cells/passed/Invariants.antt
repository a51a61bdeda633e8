-- What is left of the row, and the characters and cells so far.
use Rattle.std.proofs.Common.{◌≡◌, ◌+◌, ◌≤◌}
use Rattle.std.specs.Str.{IsUtf8, chars}
use Rattle.std.specs.Str.Iter.{chars_rest}
use Rattle.json_reports.specs.Cells.{passed as passed_in}
use Rattle.json_reports.proofs.cells.passed.Given as goal

abbrev pub invariant-loop-c : goal.invariant-loop-c
invariant-loop-c l =
    let rest = chars_rest l.c-iterator in
    record {
      can_next : (goal.iterator-loop-c).can_next l.c-iterator;
      is_finite : (goal.iterator-loop-c).is_finite l.c-iterator;
      utf8 : IsUtf8 rest;
      fewer : l.passed ≤ l.at;
      low : l.at ≤ l.count;
      value : passed_in l.cells l.count l.at (chars rest) + l.passed ≡ passed_in l.cells l.count 0 (chars l.row);
    }

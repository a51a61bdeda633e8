-- What is left of the text, and of the characters.
use Rattle.std.proofs.Common.{◌≡◌, ◌+◌, drop, option_map}
use Rattle.std.specs.Str.{IsUtf8, IsCharBoundary, chars}
use Rattle.std.specs.Str.Iter.{chars_rest}
use Rattle.sarif_spans.specs.Span.{passed}
use Rattle.sarif_spans.proofs.offsets.passed.Given as goal

abbrev pub invariant-loop-c : goal.invariant-loop-c
invariant-loop-c l =
    let rest = chars_rest l.c-iterator in
    record {
      can_next : (goal.iterator-loop-c).can_next l.c-iterator;
      is_finite : (goal.iterator-loop-c).is_finite l.c-iterator;
      utf8 : IsUtf8 rest;
      place : drop l.at l.text ≡ rest;
      boundary : IsCharBoundary l.text l.at;
      value : option_map (λ bytes. l.at + bytes) (passed l.left (chars rest)) ≡ passed l.count (chars l.text);
    }

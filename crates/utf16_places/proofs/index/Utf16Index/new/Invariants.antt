use Rattle.std.proofs.Common.{◌≡◌, ◌+◌, ◌-◌, ◌++◌, ◌<◌, get_or, length, map, drop}
use denote.Text.{Utf8}
use denote.Shadow.{shadow}
use Rattle.std.specs.Str.{IsCharBoundary}
use Rattle.source_location.specs.Breaks.{LineBreak, breaks_of}
use Rattle.source_location.specs.Rows.{line_starts}
use Rattle.utf16_places.specs.Index.{AreWideBefore}
use Rattle.utf16_places.proofs.index.Utf16Index.new.Given as goal

abbrev pub invariant-loop-position : goal.invariant-loop-position
invariant-loop-position l =
    record {
      utf8 : shadow (Utf8 l.rest);
      place : l.rest ≡ drop l.at l.text;
      boundary : IsCharBoundary l.text l.at;
      some : 0 < length l.line_starts.items;
      last : get_or l.line_starts.items (length l.line_starts.items - 1) 0 ≡ l.at;
      starts : l.line_starts.items ++ map (λ (b : LineBreak). b.end + 1 + l.at) (breaks_of l.rest) ≡ line_starts (breaks_of l.text);
      breaks : l.line_breaks.items ++ map (λ (b : LineBreak). b.start + l.at) (breaks_of l.rest) ≡ map (λ (b : LineBreak). b.start) (breaks_of l.text);
      marked : AreWideBefore l.text l.at l.wide.items;
    }

abbrev pub decreases-loop-position : goal.decreases-loop-position
decreases-loop-position l = length l.rest

use Rattle.std.proofs.Common.{◌≡◌, ◌+◌, ◌&&◌, ◌++◌, length, map}
use denote.Text.{Utf8}
use denote.Shadow.{shadow}
use Rattle.source_location.specs.Breaks.{LineBreak, breaks_of}
use Rattle.source_location.specs.Rows.{line_starts}
use Rattle.source_location.specs.Index.{is_ascii, is_ascii_kind}
use Rattle.source_location.proofs.line_index.LineIndex.from_source_text.Given as goal

abbrev pub invariant-loop-position : goal.invariant-loop-position
invariant-loop-position l =
    record {
      utf8 : shadow (Utf8 l.rest);
      place : l.at + length l.rest ≡ length l.text;
      starts : l.line_starts.items ++ map (λ (b : LineBreak). b.end + 1 + l.at) (breaks_of l.rest) ≡ line_starts (breaks_of l.text);
      kind : (is_ascii_kind l.kind && is_ascii l.rest) ≡ is_ascii l.text;
    }

abbrev pub decreases-loop-position : goal.decreases-loop-position
decreases-loop-position l = length l.rest

-- What the fields of a scanner and of contents say.
use Rattle.std.specs.Prelude.{length, IfSome}
use Rattle.oxc_windows.specs.declared.contents.SpanContents.TheInside.{Inside as ContentsFields}
use Rattle.oxc_windows.specs.declared.scanner.SpanScanner.TheInside.{Inside as ScannerFields}
use Rattle.oxc_windows.specs.Breaks.{breaks_of}
use Rattle.oxc_windows.specs.Index.{IsIndexOf, index_view}
use Rattle.oxc_windows.specs.Scan.{Scan, Contents}
use Rattle.oxc_windows.specs.Text.{IsAsText}

abbrev pub contents_view : ContentsFields → Contents
contents_view c = record { bytes = c.bytes.now; span = c.span; line = c.line; column = c.column; line_count = c.line_count }

abbrev pub scan_view : ScannerFields → Scan
scan_view s =
    let index = index_view s.index in
    record {
      input = s.source.bytes.now;
      before = index.before;
      after = index.after;
      first = index.first;
      left = index.left;
      kept = index.kept;
    }

-- the index is one of the source, and what is known of the source as a text is true
pub record IsScanner (s : ScannerFields) : Type 0 where
  pub index : IsIndexOf (length s.source.bytes.now) (breaks_of s.source.bytes.now) s.index
  pub text : IfSome s.text (IsAsText s.source.bytes.now)

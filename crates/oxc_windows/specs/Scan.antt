-- What contracts see of a scanner, and of the contents that it reads.
use Rattle.std.specs.Prelude.{◌≡◌, ℕ, ◌+◌, ◌<◌, ◌≤◌, List, [], length, slice_range, Option, Some, None}
use Rattle.std.specs.Str.{IsUtf8}
use Rattle.std.specs.Option.{option_map}
use Rattle.oxc_span.specs.declared.span.Span.{Span}
use Rattle.oxc_windows.specs.declared.window.Window.{Window}
use Rattle.oxc_windows.specs.Breaks.{breaks_of}
use Rattle.oxc_windows.specs.Window.{first_row, window_of}
use Rattle.oxc_windows.specs.Kept.{AreKeptUpTo}

-- the source that a scanner reads, the rows that it reads before and after a span, the start of the first span that had a window,
-- how many bytes it has not looked at since (0 before that span), and the row starts that it keeps
pub record Scan : Type 0 where
  pub input : List ℕ
  pub before : ℕ
  pub after : ℕ
  pub first : Option ℕ
  pub left : ℕ
  pub kept : List ℕ

-- a scanner of these bytes that has read nothing
abbrev pub new_scan : List ℕ → ℕ → ℕ → Scan
new_scan input before after = record { input = input; before = before; after = after; first = None; left = 0; kept = [] }

-- the same source, and as many rows of context: what stays of a scanner whatever is read
pub record IsSameReader (old new : Scan) : Type 0 where
  pub input : new.input ≡ old.input
  pub before : new.before ≡ old.before
  pub after : new.after ≡ old.after

-- every row start is kept, from the first row of the first span's window on to before a place
abbrev pub KeepsUpTo : Scan → ℕ → Type 0
KeepsUpTo scan stop = (first : ℕ) → scan.first ≡ Some first
    → AreKeptUpTo (length scan.input) (breaks_of scan.input) (first_row (breaks_of scan.input) scan.before first) scan.kept stop

-- bytes, where they stand in their source, and the numbers of their window
pub record Contents : Type 0 where
  pub bytes : List ℕ
  pub span : Span
  pub line : ℕ
  pub column : ℕ
  pub line_count : ℕ

-- the contents of a window of a text: the bytes from its begin to its end, and its three numbers
abbrev pub contents_of : List ℕ → Window → Contents
contents_of text window =
    record {
      bytes = slice_range text window.begin window.end;
      span = record { start = window.begin; end = window.end };
      line = window.line;
      column = window.column;
      line_count = window.line_count;
    }

-- the window that a scanner has for a span, by its text's length and breaks
abbrev pub window_in : Scan → Span → Option Window
window_in scan span = window_of (length scan.input) (breaks_of scan.input) scan.before scan.after span.start span.end

-- what a scanner reads of a span: the contents of its window, if it has one
abbrev pub contents_read : Scan → Span → Option Contents
contents_read scan span = option_map (contents_of scan.input) (window_in scan span)

-- a scanner reads a text, in whole rows: a row of context or more is asked for on both sides
pub record IsReadInRows (scan : Scan) : Type 0 where
  pub text : IsUtf8 scan.input
  pub before : 1 ≤ scan.before
  pub after : 1 ≤ scan.after

-- the span is as long as the bytes
abbrev pub IsMeasured : Contents → Type 0
IsMeasured contents = contents.span.start + length contents.bytes ≡ contents.span.end

-- the numbers of rows are below `u32::MAX`
abbrev pub IsNumbered : Contents → Type 0
IsNumbered contents = (contents.line < 4294967295) × (contents.line_count < 4294967295)

-- What a read of a span promises: what it gives, what stays of the scanner, what the scanner keeps, and what it costs.
use Rattle.std.specs.Prelude.{◌≡◌, ℕ, ◌+◌, ◌*◌, ◌<◌, ◌≤◌, ◌↔◌, length, Option, Some, None, Result, Ok, IfOk, IfSome, IsNone, IsSome, OnOk, OnErr}
use Rattle.std.specs.Str.{IsUtf8}
use Rattle.std.specs.declared.alloc.AllocError.{AllocError}
use Rattle.oxc_span.specs.declared.span.Span.{Span}
use Rattle.oxc_windows.specs.Breaks.{breaks_of}
use Rattle.oxc_windows.specs.Kept.{AllStay, AreKept, first_after}
use Rattle.oxc_windows.specs.Scan.{Contents, IsMeasured, IsNumbered, IsReadInRows, IsSameReader, KeepsUpTo, Scan, contents_read}

-- the contents of the span's window, or none where it ends past the source; or want of memory, which changes no later answer
pub record ReadsSpan (old new : Scan) (span : Span) (result : Result (Option Contents) AllocError) : Type 0 where
  pub value : IfOk result (λ found. found ≡ contents_read old span)
  pub none : IfOk result (λ found. IsNone found ↔ (length old.input < span.end))
  -- a text is cut where rows begin
  pub text : IsReadInRows old → IfOk result (λ found. IfSome found (λ contents. IsUtf8 contents.bytes))
  pub measured : IfOk result (λ found. IfSome found IsMeasured)
  pub numbered : IfOk result (λ found. IfSome found IsNumbered)
  pub unchanged : IsSameReader old new
  -- a refused span
  pub refused : length old.input < span.end → result ≡ Ok None
  pub still : length old.input < span.end → new ≡ old
  -- what is kept
  pub first : OnOk result (new.first ≡ first_after (length old.input) old.first span.start span.end)
  pub first_stays : OnErr result (new.first ≡ old.first)
  pub kept : AreKept (length old.input) (breaks_of old.input) old.before new.first new.kept
  pub stay : AllStay old.kept new.kept
  pub held : (first : ℕ) → new.first ≡ Some first → first ≤ span.start
      → IfOk result (λ found. IfSome found (λ contents. KeepsUpTo new contents.span.end))
  pub left : IsSome old.first → new.left ≤ old.left

-- how many bytes a read of a span looks at, by the count before and after
pub record TicksForSpan (old new : Scan) (span : Span) (result : Result (Option Contents) AllocError) (before after : ℕ) : Type 0 where
  pub free : length old.input < span.end → after ≡ before
  pub first : span.end ≤ length old.input → old.first ≡ None
      → OnOk result (after + new.left ≤ before + length old.input + span.start + 2)
  pub later : (first : ℕ) → old.first ≡ Some first → first ≤ span.start → OnOk result (after + new.left ≤ before + old.left)
  pub above : (first : ℕ) → old.first ≡ Some first → span.start < first
      → IfOk result (λ found. IfSome found (λ contents. after ≤ before + 2 * contents.span.end + 2))

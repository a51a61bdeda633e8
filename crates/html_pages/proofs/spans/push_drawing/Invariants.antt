-- What is left comes next.
use Rattle.std.proofs.Common.{◌≡◌, ◌++◌, length, string_bytes}
use denote.Text.{Utf8}
use denote.Shadow.{shadow}
use Rattle.html_pages.specs.Spans.{Outside, spans_from, spans_text}
use Rattle.html_pages.proofs.spans.push_drawing.Given as goal

abbrev pub invariant-loop-front : goal.invariant-loop-front
invariant-loop-front l = shadow (Utf8 l.rest) × (string_bytes l.out ++ spans_from l.begun Outside l.rest ≡ string_bytes l.initial.out ++ spans_text l.drawing)

abbrev pub decreases-loop-front : goal.decreases-loop-front
decreases-loop-front l = length l.rest

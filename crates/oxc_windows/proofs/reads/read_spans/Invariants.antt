use Rattle.std.proofs.Common.{◌≡◌, ◌++◌, drop, length, map, All}
use Rattle.oxc_windows.specs.Scan.{IsSameReader, contents_read}
use Rattle.oxc_windows.specs.Total.{IsNotBefore, IsSpent, first_of, first_from}
use Rattle.oxc_windows.proofs.reads.read_spans.Given as goal

abbrev pub invariant-loop-i : goal.invariant-loop-i
invariant-loop-i g l = record {
  reader : IsSameReader l.initial.scanner l.scanner;
  value : l.found.items ++ map (contents_read l.initial.scanner) (drop l.i l.spans) ≡ map (contents_read l.initial.scanner) l.spans;
  first : first_from (length l.initial.scanner.input) l.scanner.first (drop l.i l.spans) ≡ first_of (length l.initial.scanner.input) l.spans;
  spent : All (λ s. IsNotBefore (length l.initial.scanner.input) (first_of (length l.initial.scanner.input) l.spans) s) l.spans
      → IsSpent (length l.initial.scanner.input) l.initial.steps l.scanner.first l.scanner.left l.steps;
}

use Rattle.std.proofs.Common.{◌≡◌, ◌++◌, drop, map, string_bytes}
use Rattle.oxc_protocol.specs.MessageLines.{message_lines}
use Rattle.report_tests.proofs.of_oxc_protocol_records.lines_of.Given as goal

-- what is written and the lines still to come make up all lines
abbrev pub invariant-loop-error : goal.invariant-loop-error
invariant-loop-error g l =
    string_bytes l.lines ++ message_lines (map (λ b. (goal.Diagnostic-dyn g (b.vtable, b.value)).parts b.value) (drop l.error-index l.errors))
    ≡ message_lines (map (λ b. (goal.Diagnostic-dyn g (b.vtable, b.value)).parts b.value) l.errors)

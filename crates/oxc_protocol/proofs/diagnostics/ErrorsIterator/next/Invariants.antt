use Rattle.std.proofs.Common.{◌≡◌, filter, length}
use Rattle.oxc_protocol.specs.Severities.{has_severity}
use Rattle.oxc_protocol.specs.declared.protocol.Severity.TheVariants.{Error}
use Rattle.oxc_protocol.proofs.diagnostics.ErrorsIterator.next.Given as goal

-- no diagnostic that is looked for was passed over
abbrev pub invariant-loop-first : goal.invariant-loop-first
invariant-loop-first l = filter (has_severity Error) l.initial.self-inside.rest.now ≡ filter (has_severity Error) l.self-inside.rest.now

abbrev pub decreases-loop-first : goal.decreases-loop-first
decreases-loop-first l = length l.self-inside.rest.now

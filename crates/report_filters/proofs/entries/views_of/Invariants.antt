-- The views so far.
use Rattle.std.proofs.Common.{◌≡◌, map, take}
use Rattle.finding_filters.specs.Finding.{finding_parts}
use Rattle.report_filters.specs.Entries.{entry_parts}
use Rattle.report_filters.proofs.entries.views_of.Given as goal

abbrev pub invariant-loop-entry : goal.invariant-loop-entry
invariant-loop-entry l = map finding_parts l.views.items ≡ map entry_parts (take l.entry-index l.entries)

use Rattle.std.proofs.Common.{map}
use Rattle.ci_formats.specs.Finding.{finding_parts}
use Rattle.finding_laws.proofs.CheckstyleLemmas.Outcome.{reads_outcome}
use Rattle.finding_laws.proofs.CheckstyleLemmas.Part.{reads_conditions, reads_message, reads_parts}
use Rattle.finding_laws.proofs.CheckstyleLemmas.Spot.{reaches_each}
use Rattle.finding_laws.proofs.checkstyle.findings_are_read.Goals as goal

pub returns-clause-elements : goal.returns-clause-elements
returns-clause-elements c = reaches_each (map finding_parts c.args._findings.now)

pub returns-clause-parts : goal.returns-clause-parts
returns-clause-parts c = reads_parts (map finding_parts c.args._findings.now)

pub returns-clause-message : goal.returns-clause-message
returns-clause-message c = reads_message (map finding_parts c.args._findings.now)

pub returns-clause-conditions : goal.returns-clause-conditions
returns-clause-conditions c = reads_conditions (map finding_parts c.args._findings.now)

pub returns-clause-outcome : goal.returns-clause-outcome
returns-clause-outcome c = reads_outcome (map finding_parts c.args._findings.now)

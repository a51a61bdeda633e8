use Rattle.std.proofs.Common.{map, ◌∙◌}
use Rattle.std.proofs.lemmas.List.{length-map}
use Rattle.finding_filters.specs.Finding.{finding_parts}
use Rattle.filtered_findings.proofs.KnownLemmas.{each_judged}
use Rattle.filtered_findings.proofs.laws.each_is_judged.Goals as goal

pub returns : goal.returns
returns c = each_judged c.args._filters.now (map finding_parts c.args._found.now) (map finding_parts c.args._old.now) ∙ length-map c.args._found.now finding_parts

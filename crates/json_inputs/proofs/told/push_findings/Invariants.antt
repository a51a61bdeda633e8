-- Those before are told; those left are still to come.
use Rattle.std.proofs.Common.{◌≡◌, ◌++◌, map, string_bytes, length}
use Rattle.std.specs.List.{flat_map}
use Rattle.json_forms.specs.Finding.{finding_view}
use Rattle.json_inputs.specs.Told.{finding_lines}
use Rattle.json_inputs.proofs.told.push_findings.Given as goal

abbrev pub invariant-loop-findings : goal.invariant-loop-findings
invariant-loop-findings l =
    string_bytes l.out ++ flat_map (finding_lines l.row) (map finding_view l.findings) ≡ string_bytes l.initial.out ++ flat_map (finding_lines l.row) (map finding_view l.initial.findings)

abbrev pub decreases-loop-findings : goal.decreases-loop-findings
decreases-loop-findings l = length l.findings

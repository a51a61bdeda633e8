-- One line per problem, as `problem_lines` writes it.
use Rattle.std.specs.Prelude.{ℕ, List}
use Rattle.std.specs.List.{flat_map}
use Rattle.oxc_protocol.specs.Info.{InfoParts}
use Rattle.oxc_protocol.specs.declared.reporter.InfoPosition.{InfoPosition}
use Rattle.problem_lines.specs.Line.{problem_line}
use Rattle.ci_formats.specs.declared.finding.Location.{Location}
use Rattle.ci_formats.specs.Finding.{FindingParts}
use Rattle.ci_formats.specs.Files.{or_zero}

abbrev pub position_of : Location → InfoPosition
position_of at = record { line = or_zero at.row; column = or_zero at.column }

-- the problem that a finding is: rows and columns that aren't known are 0, and its severity stays
abbrev pub problem_of : FindingParts → InfoParts
problem_of f = record { start = position_of f.start; end = position_of f.end; filename = f.name; message = f.message; severity = f.severity; rule_id = f.code }

abbrev pub problem_text : FindingParts → List ℕ
problem_text f = problem_line (problem_of f)

abbrev pub problems_of : List FindingParts → List ℕ
problems_of findings = flat_map problem_text findings

-- The line of a problem.
use Rattle.std.specs.Prelude.{ℕ, ◌^◌, ◌<◌, List, [], ◌++◌, Option, Some, None, codes, decimal}
use Rattle.oxc_protocol.specs.declared.protocol.Severity.{Severity}
use Rattle.oxc_protocol.specs.declared.protocol.Severity.TheVariants.{Error, Warning, Advice}
use Rattle.oxc_protocol.specs.declared.reporter.InfoPosition.{InfoPosition}
use Rattle.problem_lines.specs.declared.escape.Field.TheVariants.{Name, Rule, Message}
use Rattle.oxc_protocol.specs.Info.{InfoParts}
use Rattle.problem_lines.specs.Escape.{escape}

abbrev pub severity_name : Severity → List ℕ
severity_name Error = codes "error"
severity_name Warning = codes "warning"
severity_name Advice = codes "advice"

-- a line and a column, each with a colon behind
unfoldable pub place_text : InfoPosition → List ℕ
place_text place = decimal place.line ++ codes ":" ++ decimal place.column ++ codes ":"

-- the rule in brackets, where there is one
unfoldable pub rule_text : Option (List ℕ) → List ℕ
rule_text None = []
rule_text (Some rule) = codes "[" ++ escape Rule rule ++ codes "]"

unfoldable pub head_text : InfoParts → List ℕ
head_text problem = escape Name problem.filename ++ codes ":" ++ place_text problem.start ++ place_text problem.end

unfoldable pub tail_text : InfoParts → List ℕ
tail_text problem = codes " " ++ severity_name problem.severity ++ rule_text problem.rule_id ++ codes ": " ++ escape Message problem.message ++ codes "\n"

unfoldable pub problem_line : InfoParts → List ℕ
problem_line problem = head_text problem ++ tail_text problem

-- its numbers are those of a `usize`
pub record IsSmall (place : InfoPosition) : Type 0 where
  pub line : place.line < 2 ^ 64
  pub column : place.column < 2 ^ 64

pub record IsInRange (problem : InfoParts) : Type 0 where
  pub start : IsSmall problem.start
  pub end : IsSmall problem.end

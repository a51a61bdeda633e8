-- What a problem's line is read as.
use Rattle.std.specs.Prelude.{◌≡◌, ℕ, false, List, [], ◌∷◌, ◌++◌, map, Option, Some, None}
use Rattle.std.specs.List.{flat_map}
use Rattle.line_shapes.specs.declared.level.Severity.{Severity}
use Rattle.line_shapes.specs.declared.level.Severity.TheVariants.{Error, Warning, Advice}
use Rattle.line_shapes.specs.Part.{Seen}
use Rattle.oxc_protocol.specs.declared.protocol.Severity.{Severity as OwnSeverity}
use Rattle.oxc_protocol.specs.declared.protocol.Severity.TheVariants.{Error as AnError, Warning as AWarning, Advice as AnAdvice}
use Rattle.oxc_protocol.specs.Info.{InfoParts}
use Rattle.problem_lines.specs.Line.{problem_line}
use Rattle.tool_lines.specs.declared.lines.Sort.TheVariants.{Inline, Kept}
use Rattle.tool_lines.specs.Lines.{ArePieces, FindingParts, PieceParts, begun, is_placing, lines_of}

abbrev pub severity_meant : OwnSeverity → Severity
severity_meant AnError = Error
severity_meant AWarning = Warning
severity_meant AnAdvice = Advice

-- what the parts of shapes find in its line
abbrev pub seen_of : InfoParts → Seen
seen_of p =
    record {
      rest = [];
      line = Some p.start.line;
      column = Some p.start.column;
      end_line = Some p.end.line;
      end_column = Some p.end.column;
      severity = Some (severity_meant p.severity);
      initial = None;
      aside = false;
      code = p.rule_id;
      numbered = false;
      apart = false;
      message = Some p.message;
    }

-- the finding that is the problem
abbrev pub finding_of : InfoParts → FindingParts
finding_of p =
    record {
      place = record { name = p.filename; found = seen_of p };
      says = record { severity = severity_meant p.severity; aside = false; code = p.rule_id; message = p.message };
    }

-- in a line that is a problem's, the problem begins, if no line follows that has its place
abbrev pub ReadsBack : InfoParts → Type 0
ReadsBack p =
    (line : List ℕ) (next : Option (List ℕ)) → problem_line p ≡ line ++ 0x0A ∷ [] → is_placing next ≡ false
    → begun [] line next ≡ record { sort = Inline; finding = Some (finding_of p) }

-- the piece that is a problem: its line alone
abbrev pub piece_back : InfoParts → PieceParts
piece_back p = record { lines = 1; begun = record { sort = Inline; finding = Some (finding_of p) } }

-- what is left behind the last LF of a text
abbrev pub last_piece : PieceParts
last_piece = record { lines = 1; begun = record { sort = Kept; finding = None } }

-- the pieces of the lines of problems are these problems, in order
abbrev pub AreReadBack : List InfoParts → Type 0
AreReadBack problems = (pieces : List PieceParts) → ArePieces [] None (lines_of (flat_map problem_line problems)) pieces → pieces ≡ map piece_back problems ++ last_piece ∷ []

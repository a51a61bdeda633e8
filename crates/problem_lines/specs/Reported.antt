-- Runs of the reporter, and what is read of the texts that they give.
use Rattle.std.specs.Prelude.{◌≡◌, ℕ, List, Option, Result, Vec, map}
use Rattle.std.specs.List.{concat}
use Rattle.std.specs.declared.alloc.Global.{Global}
use Rattle.oxc_protocol.specs.Info.{info_of}
use Rattle.oxc_protocol.specs.Parts.{Parts}
use Rattle.oxc_protocol.specs.Reporters.{Answers, texts_in}
use Rattle.oxc_protocol.specs.declared.reporter.Info.{Info}
use Rattle.problem_lines.specs.Lines.{GivesBack}
use Rattle.problem_lines.specs.Report.{IsReported}
use Rattle.problem_lines.specs.declared.read.ProblemError.{ProblemError}
use Rattle.problem_lines.specs.declared.reporter.ProblemReporter.{ProblemReporter}

-- where a text is what a reporter of problem lines gave of diagnostics, joined, the answer is what an editor is told of them, in order, or want of memory
abbrev pub ReadsReported : List ℕ → Result (Vec Info Global) ProblemError → Type 0
ReadsReported text result = (first last : ProblemReporter) (ps : List Parts) (answers : List (Option (List ℕ))) → Answers (λ _ p line _. IsReported p line) first ps answers last
    → text ≡ concat (texts_in answers) → GivesBack result (map info_of ps)

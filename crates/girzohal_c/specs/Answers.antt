-- The numbers that a call gives besides its status.
use Rattle.std.specs.Prelude.{ℕ, true, false}
use Rattle.report_arrays.specs.declared.judged.Wrong.TheVariants.{InTexts, InFile, InReport, InLabel}
use Rattle.render_files.specs.declared.places.ReportError.{ReportError}
use Rattle.render_files.specs.declared.places.ReportError.TheVariants.{UnknownFile, PositionOutside, LabelReversed, SinkFault, OutOfMemory}
use Rattle.girzohal_c.specs.declared.shapes.Answer.{Answer}
use Rattle.girzohal_c.specs.declared.drawing.Argument.{Argument}
use Rattle.girzohal_c.specs.declared.drawing.Argument.TheVariants.{InAbi, InArrays, InLook}

-- nothing
abbrev pub no_answer : Answer
no_answer = record {
  needed = 0;
  array = 0;
  index = 0;
  report = 0;
  label = 0;
  cause = 0;
  first = 0;
  second = 0;
}

-- how many bytes the text has
abbrev pub needs : ℕ → Answer
needs bytes = record no_answer { needed = bytes }

-- the arrays are texts, files, reports and labels, from 0; the look is 4, and the number of the ABI 5
abbrev pub wrong_answer : Argument → Answer
wrong_answer (InArrays InTexts) = no_answer
wrong_answer (InArrays (InFile at)) = record no_answer { array = 1; index = at }
wrong_answer (InArrays (InReport at)) = record no_answer { array = 2; index = at }
wrong_answer (InArrays (InLabel at)) = record no_answer { array = 3; index = at }
wrong_answer (InLook at) = record no_answer { array = 4; index = at }
wrong_answer InAbi = record no_answer { array = 5 }

-- the causes: 1 an unknown file, 2 a start and 3 an end that are no positions, 4 an end before its start
abbrev pub refused_answer : ReportError → Answer
refused_answer (UnknownFile at) = record no_answer { cause = 1; report = at }
refused_answer (PositionOutside at mark false) = record no_answer { cause = 2; report = at; label = mark }
refused_answer (PositionOutside at mark true) = record no_answer { cause = 3; report = at; label = mark }
refused_answer (LabelReversed at mark start end) =
    record no_answer { cause = 4; report = at; label = mark; first = start; second = end }
refused_answer SinkFault = no_answer
refused_answer OutOfMemory = no_answer

use Rattle.std.proofs.Common.{◌∷◌, sym, ap₂, ◌∙◌}
use Rattle.problem_lines.specs.Lines.{lines_of}
use Rattle.problem_lines.proofs.LinesLemmas.{first_line_cut, first_line_none, line_boundary}
use Rattle.problem_lines.proofs.read.first_line.Goals as goal

pub split_at-requires : goal.split_at-requires
split_at-requires c = line_boundary c.args.text.now c.in-Some.parts.0.now c.in-Some.parts.1.now c.utf8.text c.in-Some.ensures

pub returns-in-Some-clause-lines : goal.returns-in-Some-clause-lines
returns-in-Some-clause-lines c =
    (first_line_cut c.args.text.now c.in-Some.parts.0.now c.in-Some.parts.1.now c.in-Some.ensures).0
    ∙ ap₂ (λ line rest. line ∷ lines_of rest) (sym c.split_at.ensures.front) (sym c.split_at.ensures.back)

pub returns-in-None-clause-lines : goal.returns-in-None-clause-lines
returns-in-None-clause-lines c = first_line_none c.args.text.now c.requires c.in-None.ensures

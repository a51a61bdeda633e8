use Rattle.std.proofs.Common.{◌∙◌, sym}
use Rattle.std.proofs.lemmas.Bool.{both_ways}
use Rattle.std.proofs.lemmas.Slice.Eq.{bytes_eq-Decides}
use Rattle.oxc_protocol.specs.Info.{info_parts}
use Rattle.problem_lines.specs.Parsed.{texts_of}
use Rattle.problem_lines.proofs.BackLemmas.{read_some, read_other}
use Rattle.problem_lines.proofs.read.read_problem.Goals as goal

pub returns-then-eq : goal.returns-then-eq
returns-then-eq c =
    read_some c.args.line.now (texts_of c.in-Some.parts) (info_parts c.in_ok-info.info) c.in-Some.ensures.parts c.in-Some.ensures.range c.in_ok-info.ensures
    (sym c.in_ok-written.ensures.line ∙ sym c.as_str.ensures.value ∙ (bytes_eq-Decides c.as_str.result.now c.args.line.now).0 (sym c.eq.ensures ∙ c.if-eq.true))

pub returns-else-eq : goal.returns-else-eq
returns-else-eq c =
    read_other c.args.line.now (texts_of c.in-Some.parts) (info_parts c.in_ok-info.info) c.in-Some.ensures.parts c.in_ok-info.ensures
    (λ same. both_ways c.eq.result c.if-eq.false (c.eq.ensures ∙ (bytes_eq-Decides c.as_str.result.now c.args.line.now).1 (c.as_str.ensures.value ∙ c.in_ok-written.ensures.line ∙ same)))

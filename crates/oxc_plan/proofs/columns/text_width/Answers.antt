use Rattle.std.proofs.Common.{◌∙◌, ap, subst, MatchBool}
use Rattle.std.specs.Str.{IsAscii, IsNotAscii}
use Rattle.oxc_plan.specs.Width.{at_margin, pen_after}
use Rattle.oxc_plan.proofs.AsciiLemmas.{width_ascii}
use Rattle.oxc_plan.proofs.columns.text_width.Goals as goal

pub returns-then-is_ascii-clause-exact : goal.returns-then-is_ascii-clause-exact
returns-then-is_ascii-clause-exact c =
    let ascii : IsAscii c.args.text.now = subst (λ b. MatchBool b (IsAscii c.args.text.now) (IsNotAscii c.args.text.now)) c.if-is_ascii.true c.is_ascii.ensures.cases in
    ap (λ pen. pen.column) (c.pen_over.ensures.exact ∙ ap (pen_after c.args.tabs at_margin) c.as_bytes.ensures.value) ∙ width_ascii c.args.tabs c.args.text.now ascii

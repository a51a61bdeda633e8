-- The line of this number.
use Rattle.std.proofs.Common.{◌∙◌, length, sym}
use Rattle.std.proofs.lemmas.Bool.{ltb-true}
use Rattle.std.proofs.lemmas.Result.{IfOk-weaker}
use Rattle.line_reports.proofs.AsideLemmas.{line_read}
use Rattle.line_reports.proofs.asides.line_of.Goals as goal

pub returns-in-Some : goal.returns-in-Some
returns-in-Some c =
    IfOk-weaker c.line_characters.result _ _
    (λ it are. are ∙ line_read c.args.body.now c.args.number c.in-Some.line.now (ltb-true c.args.number (length c.args.body.now) (sym c.in-Some.ensures.lookup.0)) c.in-Some.ensures.lookup.1)
    c.line_characters.ensures

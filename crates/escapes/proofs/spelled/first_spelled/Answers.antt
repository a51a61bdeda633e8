use Rattle.std.proofs.Common.{ap, ◌∙◌}
use Rattle.std.specs.List.{position}
use Rattle.escapes.specs.Escape.{is_spelled}
use Rattle.escapes.proofs.EscapeLemmas.{first_found}
use Rattle.escapes.proofs.spelled.first_spelled.Goals as goal

pub returns : goal.returns
returns g c =
    let spelled = g.S.Spelling.spelled c.args.kind.now in
    first_found spelled c.args.text.now c.first_place.result (g.met.S.Spelling.ascii c.args.kind.now) (c.first_place.ensures ∙ ap (position (is_spelled spelled)) c.as_bytes.ensures.value)

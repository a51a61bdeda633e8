use Rattle.std.proofs.Common.{sym, ◌∙◌}
use Rattle.utf16_places.proofs.MarkLemmas.{past_found, past_missing}
use Rattle.utf16_places.proofs.build.later_past_ascii.Goals as goal

pub returns-in-Some : goal.returns-in-Some
returns-in-Some c =
    past_found c.args.bytes.now c.ascii_blocks-passed.result c.in-Some.at c.ascii_blocks-passed.ensures.within c.ascii_blocks-passed.ensures.ascii (sym c.position_past_ascii.ensures ∙ c.in-Some.is)

pub returns-in-None : goal.returns-in-None
returns-in-None c =
    past_missing c.args.bytes.now c.ascii_blocks-passed.result c.ascii_blocks-passed.ensures.within c.ascii_blocks-passed.ensures.ascii (sym c.position_past_ascii.ensures ∙ c.in-None.is)

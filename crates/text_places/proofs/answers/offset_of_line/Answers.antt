use Rattle.std.proofs.Common.{arith}
use Rattle.text_places.proofs.LinesLemmas.{found_in_page, missed_in_page}
use Rattle.text_places.proofs.answers.offset_of_line.Goals as goal

pub returns-then-reached-eq0 : goal.returns-then-reached-eq0
returns-then-reached-eq0 c text utf8 is =
    found_in_page c.args.encoding text c.args.place c.args.line.now c.reach-reached.result.place c.reach-reached.result.left utf8 is c.reach-reached.ensures.last c.reach-reached.ensures.left c.reach-reached.ensures.behind c.if-reached-eq0.true

pub returns-else-reached-eq0 : goal.returns-else-reached-eq0
returns-else-reached-eq0 c text utf8 is =
    missed_in_page c.args.encoding text c.args.place c.args.line.now c.reach-reached.result.place c.reach-reached.result.left utf8 is c.reach-reached.ensures.last c.reach-reached.ensures.left (omega arith)

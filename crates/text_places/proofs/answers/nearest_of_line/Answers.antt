use Rattle.text_places.proofs.LinesLemmas.{nearest_in_page}
use Rattle.text_places.proofs.answers.nearest_of_line.Goals as goal

pub returns : goal.returns
returns c text utf8 is =
    nearest_in_page c.args.encoding text c.args.place c.args.line.now c.reach-reached.result.place utf8 is c.reach-reached.ensures.last

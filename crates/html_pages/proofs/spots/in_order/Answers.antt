use Rattle.html_pages.proofs.SpotLemmas.{ordered_spots}
use Rattle.html_pages.proofs.spots.in_order.Goals as goal

pub returns : goal.returns
returns c = ordered_spots c.args.spots.items c.sort.new.self.items c.in_ok-sort.ensures.permutation c.in_ok-sort.ensures.sorted

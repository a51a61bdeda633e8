use Rattle.finding_filters.proofs.OrderLemmas.{known_same}
use Rattle.finding_filters.proofs.laws.order_is_no_matter.Goals as goal

pub returns : goal.returns
returns c = λ items entries others flags same. known_same items flags entries others same

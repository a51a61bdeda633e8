use Rattle.std.proofs.Common.{map}
use Rattle.finding_summaries.proofs.RankLemmas.{now_of, ranked_rows}
use Rattle.finding_summaries.proofs.ranking.ranked.Goals as goal

pub returns : goal.returns
returns c =
    ranked_rows (map now_of c.args.names.now) c.in_ok-rows.rows.items c.sort.new.self.items c.in_ok-rows.ensures c.in_ok-sort.ensures.permutation c.in_ok-sort.ensures.sorted

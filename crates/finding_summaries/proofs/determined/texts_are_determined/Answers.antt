use Rattle.finding_summaries.proofs.OneRanking.{one_markdown, one_ranking, one_summary}
use Rattle.finding_summaries.proofs.determined.texts_are_determined.Goals as goal

pub returns-clause-ranking : goal.returns-clause-ranking
returns-clause-ranking c = one_ranking

pub returns-clause-summary : goal.returns-clause-summary
returns-clause-summary c = one_summary

pub returns-clause-markdown : goal.returns-clause-markdown
returns-clause-markdown c = one_markdown

use Rattle.std.proofs.Common.{sym, ◌∙◌}
use Rattle.source_location.proofs.IndexLemmas.{starts_of, start_at, start_past}
use Rattle.source_location.proofs.line_index.LineIndex.start_of.Goals as goal

pub returns-then-row-starts-clause-start : goal.returns-then-row-starts-clause-start
returns-then-row-starts-clause-start c =
    c.to_usize.ensures.number ∙ c.index-starts-row.is ∙ start_at c.line_starts-starts.result.now c.args.text.now c.args.row _
    (c.line_starts-starts.ensures.starts ∙ starts_of c.args.self.now c.args.text.now c.requires) c.if-row-starts.true

pub returns-else-row-starts-clause-start : goal.returns-else-row-starts-clause-start
returns-else-row-starts-clause-start c =
    sym (start_past c.line_starts-starts.result.now c.args.text.now c.args.row (c.line_starts-starts.ensures.starts ∙ starts_of c.args.self.now c.args.text.now c.requires) c.if-row-starts.false)

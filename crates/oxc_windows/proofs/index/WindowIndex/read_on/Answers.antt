use Rattle.oxc_windows.proofs.IndexLemmas.{line_of, more_of, some_not_none}
use Rattle.oxc_windows.proofs.KeptLemmas.{stays_of}
use Rattle.oxc_windows.proofs.index.WindowIndex.read_on.Goals as goal

pub answer-requires-clause-line : goal.answer-requires-clause-line
answer-requires-clause-line g c =
    line_of _ _ _ c.args.self.now.len _ c.args.self.now.rows c.args.self.now.first (g.met.S.BreakSource.valid c.args.source.now) (some_not_none c.args.self.now.first c.requires.first) c.requires.index c.requires.served

pub returns-clause-index : goal.returns-clause-index
returns-clause-index g c =
    more_of _ _ _ _ c.args.self.now.rows c.answer.new.self c.args.self.now.first (some_not_none c.args.self.now.first c.requires.first) c.requires.index c.answer.ensures.held c.answer.ensures.top c.answer.ensures.further

pub returns-clause-stay : goal.returns-clause-stay
returns-clause-stay g c =
    stays_of _ _ _ c.args.self.now.len c.args.self.now.rows c.answer.new.self c.args.self.now.first (g.met.S.BreakSource.valid c.args.source.now) (some_not_none c.args.self.now.first c.requires.first) c.requires.index
    c.answer.ensures.held c.answer.ensures.top c.answer.ensures.further

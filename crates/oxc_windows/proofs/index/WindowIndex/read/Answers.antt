use Rattle.std.proofs.Common.{arith, rules, sym, ◌∙◌}
use Rattle.std.proofs.lemmas.Grind.{common_steps}
use Rattle.std.proofs.lemmas.Bool.{false≢true}
use Rattle.oxc_windows.proofs.IndexLemmas.{window_none, served_of}
use Rattle.oxc_windows.proofs.KeptLemmas.{kept_is, kept_was, kept_upto_was}
use Rattle.oxc_windows.proofs.index.WindowIndex.read.Goals as goal

pub returns-then-end-len-clause-window : goal.returns-then-end-len-clause-window
returns-then-end-len-clause-window g c = record {
  before = search rules;
  after = search rules;
  value = window_none _ _ _ _ _ _ (omega (arith, c.if-end-len.true, c.len.ensures));
  none = search rules;
  refused = search rules;
  still = search rules;
}

pub returns-clause-ticks : goal.returns-clause-ticks
returns-clause-ticks g c = record {
  free = search rules;
  first = search rules;
  later = λ x e le. absurd (false≢true (sym c.if-serves.false ∙ c.serves.ensures ∙ served_of _ _ _ c.args.self.now.len c.args.span.start x c.args.self.now.rows c.args.self.now.first (g.met.S.BreakSource.valid c.args.source.now) e c.requires.index le));
  above = search rules;
  left = search rules;
}

pub returns-then-end-len-clause-rows : goal.returns-then-end-len-clause-rows
returns-then-end-len-clause-rows g c = record {
  first = search rules;
  first_stays = search rules;
  true_rows = kept_is _ _ _ c.args.self.now.len c.args.self.now.rows c.args.self.now.first (g.met.S.BreakSource.valid c.args.source.now) c.requires.index;
  stay = grind (arith, common_steps);
  held = search rules;
}

pub returns-in_err-window-clause-rows : goal.returns-in_err-window-clause-rows
returns-in_err-window-clause-rows g c = record {
  first = search rules;
  first_stays = search rules;
  true_rows = kept_was _ _ _ c.read_first.new.self.before c.read_first.new.self.len c.read_first.new.self.rows c.read_first.new.self.first c.read_first.ensures.before (g.met.S.BreakSource.valid c.args.source.now) c.read_first.ensures.index;
  stay = search rules;
  held = search rules;
}

pub returns-then-is_none-clause-rows : goal.returns-then-is_none-clause-rows
returns-then-is_none-clause-rows g c = record {
  first = search rules;
  first_stays = search rules;
  true_rows = kept_was _ _ _ c.read_first.new.self.before c.read_first.new.self.len c.read_first.new.self.rows c.read_first.new.self.first c.read_first.ensures.before (g.met.S.BreakSource.valid c.args.source.now) c.read_first.ensures.index;
  stay = search rules;
  held = λ x e le. kept_upto_was _ _ _ c.read_first.new.self.before c.read_first.new.self.len c.in_ok-window.window.end x c.read_first.new.self.rows c.read_first.new.self.first c.read_first.ensures.before (g.met.S.BreakSource.valid c.args.source.now) e c.read_first.ensures.index c.in_ok-window.ensures.held;
}

pub returns-in_err-window-2-clause-rows : goal.returns-in_err-window-2-clause-rows
returns-in_err-window-2-clause-rows g c = record {
  first = search rules;
  first_stays = search rules;
  true_rows = kept_was _ _ _ c.read_on.new.self.before c.read_on.new.self.len c.read_on.new.self.rows c.read_on.new.self.first c.read_on.ensures.before (g.met.S.BreakSource.valid c.args.source.now) c.read_on.ensures.index;
  stay = search rules;
  held = search rules;
}

pub returns-then-serves-clause-rows : goal.returns-then-serves-clause-rows
returns-then-serves-clause-rows g c = record {
  first = search rules;
  first_stays = search rules;
  true_rows = kept_was _ _ _ c.read_on.new.self.before c.read_on.new.self.len c.read_on.new.self.rows c.read_on.new.self.first c.read_on.ensures.before (g.met.S.BreakSource.valid c.args.source.now) c.read_on.ensures.index;
  stay = search rules;
  held = λ x e le. kept_upto_was _ _ _ c.read_on.new.self.before c.read_on.new.self.len c.in_ok-window-2.window.end x c.read_on.new.self.rows c.read_on.new.self.first c.read_on.ensures.before (g.met.S.BreakSource.valid c.args.source.now) e c.read_on.ensures.index c.in_ok-window-2.ensures.held;
}

pub returns-in_err-window-3-clause-rows : goal.returns-in_err-window-3-clause-rows
returns-in_err-window-3-clause-rows g c = record {
  first = search rules;
  first_stays = search rules;
  true_rows = kept_is _ _ _ c.args.self.now.len c.args.self.now.rows c.args.self.now.first (g.met.S.BreakSource.valid c.args.source.now) c.requires.index;
  stay = grind (arith, common_steps);
  held = search rules;
}

pub returns-clause-rows : goal.returns-clause-rows
returns-clause-rows g c = record {
  first = search rules;
  first_stays = search rules;
  true_rows = kept_is _ _ _ c.args.self.now.len c.args.self.now.rows c.args.self.now.first (g.met.S.BreakSource.valid c.args.source.now) c.requires.index;
  stay = grind (arith, common_steps);
  held = λ x e le. absurd (false≢true (sym c.if-serves.false ∙ c.serves.ensures ∙ served_of _ _ _ c.args.self.now.len c.args.span.start x c.args.self.now.rows c.args.self.now.first (g.met.S.BreakSource.valid c.args.source.now) e c.requires.index le));
}

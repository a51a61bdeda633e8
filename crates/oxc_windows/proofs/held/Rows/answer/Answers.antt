use Rattle.std.proofs.Common.{arith, ◌≤◌, ⊎_elim, inl, inr}
use Rattle.oxc_windows.specs.Rows.{row_start}
use Rattle.oxc_windows.proofs.ExactLemmas.{begin_low}
use Rattle.oxc_windows.proofs.MostLemmas.{end_low}
use Rattle.oxc_windows.proofs.AnswerLemmas.{searched, seen_end_is, seen_known, seen_window}
use Rattle.oxc_windows.proofs.held.Rows.answer.Goals as goal

pub search_for-requires-clause-low : goal.search_for-requires-clause-low
search_for-requires-clause-low g c =
    let n = g.S.BreakSource.size c.args.source.now in
    let list = g.S.BreakSource.breaks c.args.source.now in
    let e : row_start n list c.args.self.now.top ≤ c.args.start = begin_low n list c.args.self.now.top c.args.start (g.met.S.BreakSource.valid c.args.source.now).ordered (omega (arith, c.requires.line)) in
    omega (arith, e, c.requires.ordered)

pub window-requires-clause-rising : goal.window-requires-clause-rising
window-requires-clause-rising g c =
    (searched _ _ _ c.search_for.new.self.known _ _ c.args.before c.args.after c.args.start c.args.end (record { valid = (g.met.S.BreakSource.valid c.args.source.now); held = c.search_for.ensures.held; line = omega (arith, c.search_for.ensures.top, c.requires.line); ordered = c.requires.ordered; within = c.requires.within; reached = c.in_ok-below.ensures.reached; gathered = c.in_ok-below.ensures.gathered })).order

pub window-requires-clause-bound : goal.window-requires-clause-bound
window-requires-clause-bound g c =
    let few = (searched _ _ _ c.search_for.new.self.known _ _ c.args.before c.args.after c.args.start c.args.end (record { valid = (g.met.S.BreakSource.valid c.args.source.now); held = c.search_for.ensures.held; line = omega (arith, c.search_for.ensures.top, c.requires.line); ordered = c.requires.ordered; within = c.requires.within; reached = c.in_ok-below.ensures.reached; gathered = c.in_ok-below.ensures.gathered })).few in
    omega (arith, few, g.met.S.BreakSource.short c.args.source.now)

pub window-requires-clause-above : goal.window-requires-clause-above
window-requires-clause-above g c =
    (searched _ _ _ c.search_for.new.self.known _ _ c.args.before c.args.after c.args.start c.args.end (record { valid = (g.met.S.BreakSource.valid c.args.source.now); held = c.search_for.ensures.held; line = omega (arith, c.search_for.ensures.top, c.requires.line); ordered = c.requires.ordered; within = c.requires.within; reached = c.in_ok-below.ensures.reached; gathered = c.in_ok-below.ensures.gathered })).above

pub window-requires-clause-column : goal.window-requires-clause-column
window-requires-clause-column g c =
    rw c.len.ensures (searched _ _ _ c.search_for.new.self.known _ _ c.args.before c.args.after c.args.start c.args.end (record { valid = (g.met.S.BreakSource.valid c.args.source.now); held = c.search_for.ensures.held; line = omega (arith, c.search_for.ensures.top, c.requires.line); ordered = c.requires.ordered; within = c.requires.within; reached = c.in_ok-below.ensures.reached; gathered = c.in_ok-below.ensures.gathered })).column

pub returns-clause-value : goal.returns-clause-value
returns-clause-value g c =
    seen_window _ _ _ c.search_for.new.self.known _ _ c.args.before c.args.after c.args.start c.args.end c.len.result c.window.result (record { valid = (g.met.S.BreakSource.valid c.args.source.now); held = c.search_for.ensures.held; line = omega (arith, c.search_for.ensures.top, c.requires.line); ordered = c.requires.ordered; within = c.requires.within; reached = c.in_ok-below.ensures.reached; gathered = c.in_ok-below.ensures.gathered }) c.len.ensures c.window.ensures

pub returns-clause-known : goal.returns-clause-known
returns-clause-known g c =
    seen_known _ _ _ c.search_for.new.self.known _ _ c.args.before c.args.after c.args.start c.args.end c.len.result c.window.result (record { valid = (g.met.S.BreakSource.valid c.args.source.now); held = c.search_for.ensures.held; line = omega (arith, c.search_for.ensures.top, c.requires.line); ordered = c.requires.ordered; within = c.requires.within; reached = c.in_ok-below.ensures.reached; gathered = c.in_ok-below.ensures.gathered }) c.len.ensures c.window.ensures

pub returns-clause-most : goal.returns-clause-most
returns-clause-most g c =
    let e = seen_end_is _ _ _ c.search_for.new.self.known _ _ c.args.before c.args.after c.args.start c.args.end c.len.result c.window.result (record { valid = (g.met.S.BreakSource.valid c.args.source.now); held = c.search_for.ensures.held; line = omega (arith, c.search_for.ensures.top, c.requires.line); ordered = c.requires.ordered; within = c.requires.within; reached = c.in_ok-below.ensures.reached; gathered = c.in_ok-below.ensures.gathered }) c.len.ensures c.window.ensures in
    ⊎_elim (λ still. inl still) (λ upto. inr (omega (arith, upto, e))) c.in_ok-below.ensures.most

pub returns-clause-low : goal.returns-clause-low
returns-clause-low g c =
    let e = seen_end_is _ _ _ c.search_for.new.self.known _ _ c.args.before c.args.after c.args.start c.args.end c.len.result c.window.result (record { valid = (g.met.S.BreakSource.valid c.args.source.now); held = c.search_for.ensures.held; line = omega (arith, c.search_for.ensures.top, c.requires.line); ordered = c.requires.ordered; within = c.requires.within; reached = c.in_ok-below.ensures.reached; gathered = c.in_ok-below.ensures.gathered }) c.len.ensures c.window.ensures in
    let low = end_low _ _ c.args.after c.args.end (g.met.S.BreakSource.valid c.args.source.now) c.requires.within in
    omega (arith, low, e)

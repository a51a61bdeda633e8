use Rattle.std.proofs.Common.{arith, sym, ◌∙◌}
use Rattle.oxc_windows.proofs.SearchLemmas.{inside_zero, inside_none, inside_some}
use Rattle.oxc_windows.proofs.slice.is_inside.Goals as goal

pub returns-then-at-eq0 : goal.returns-then-at-eq0
returns-then-at-eq0 c = inside_zero _ _ c.if-at-eq0.true

pub returns-in-Some : goal.returns-in-Some
returns-in-Some c = inside_some _ _ c.in-Some.found (sym c.break_starting.ensures ∙ c.in-Some.is) (omega (arith, c.if-at-eq0.false)) c.requires

pub returns-in-None : goal.returns-in-None
returns-in-None c = inside_none _ _ (sym c.break_starting.ensures ∙ c.in-None.is)

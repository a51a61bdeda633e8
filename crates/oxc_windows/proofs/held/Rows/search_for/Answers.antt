use Rattle.std.proofs.Common.{arith, sym, ap, ◌∙◌, ◌≡◌, ◌≤◌, ◌+◌, ◌-◌, subst, min, ⊎_elim, inl, inr}
use Rattle.std.specs.List.Sorted.{IsNonDecreasing}
use Rattle.oxc_windows.specs.Rows.{row_start}
use Rattle.oxc_windows.specs.Held.{past}
use Rattle.oxc_windows.specs.Seen.{heads_before}
use Rattle.oxc_windows.proofs.SeenLemmas.{started}
use Rattle.oxc_windows.proofs.StartsLemmas.{noted, noted_order}
use Rattle.oxc_windows.proofs.AnswerLemmas.{heads_same, wanted_row}
use Rattle.oxc_windows.proofs.MostLemmas.{near_end, window_row}
use Rattle.oxc_windows.proofs.WindowLemmas.{row_start_mono}
use Rattle.oxc_windows.proofs.held.Rows.search_for.Goals as goal

pub heads_before-below-requires : goal.heads_before-below-requires
heads_before-below-requires g c =
    subst IsNonDecreasing (sym c.deref.ensures.value) (noted_order _ _ _ _ (noted _ _ _ _ _ _ (g.met.S.BreakSource.valid c.args.source.now).ordered c.reach.ensures.held)).breaks

pub returns-clause-gathered : goal.returns-clause-gathered
returns-clause-gathered g c =
    let n = g.S.BreakSource.size c.args.source.now in
    let list = g.S.BreakSource.breaks c.args.source.now in
    let upto = c.args.end - 1 + 1 in
    let low : row_start n list c.reach.new.self.top ≤ upto = let e = ap (row_start n list) c.reach.ensures.top in omega (arith, e, c.requires.low) in
    let reached : min n upto ≤ c.reach.new.self.known =
    subst (λ v. v ≤ c.reach.new.self.known) (c.min.ensures ∙ ap (λ v. min v (c.saturating_sub-upto.result + 1)) c.len.ensures ∙ ap (λ v. min n (v + 1)) c.saturating_sub-upto.ensures) c.in_ok-reach.ensures.reached in
    let top : c.gather.new.self.top ≡ c.reach.new.self.top = c.gather.ensures.top in
    let same = heads_same n list c.reach.new.self.top c.reach.new.self.known c.gather.new.self.known c.reach.new.self.starts.items c.gather.new.self.starts.items c.reach.new.self.heads.items c.gather.new.self.heads.items upto
    (g.met.S.BreakSource.valid c.args.source.now) c.reach.ensures.held (rw (← top) c.gather.ensures.held) low reached c.in_ok-gather.ensures.further in
    let counted : c.heads_before-below.result ≡ heads_before c.reach.new.self.heads.items upto =
    c.heads_before-below.ensures.exact ∙ ap (λ l. heads_before l (c.saturating_sub-upto.result + 1)) c.deref.ensures.value ∙ ap (λ v. heads_before c.reach.new.self.heads.items (v + 1)) c.saturating_sub-upto.ensures in
    λ some short. c.in_ok-gather.ensures.reached (omega (arith, short, same, counted))

pub returns-then-after-eq0-clause-most : goal.returns-then-after-eq0-clause-most
returns-then-after-eq0-clause-most g c =
    let n = g.S.BreakSource.size c.args.source.now in
    let list = g.S.BreakSource.breaks c.args.source.now in
    let near = near_end n list c.args.after c.args.end (g.met.S.BreakSource.valid c.args.source.now) in
    let to : c.min.result ≡ min n (c.args.end - 1 + 1) = c.min.ensures ∙ ap (λ v. min v (c.saturating_sub-upto.result + 1)) c.len.ensures ∙ ap (λ v. min n (v + 1)) c.saturating_sub-upto.ensures in
    let same : past list c.min.result ≡ past list (min n (c.args.end - 1 + 1)) = ap (past list) to in
    ⊎_elim (λ still. inl still) (λ upto. inr (omega (arith, upto, same, near))) c.in_ok-reach.ensures.near

pub returns-clause-most : goal.returns-clause-most
returns-clause-most g c =
    let n = g.S.BreakSource.size c.args.source.now in
    let list = g.S.BreakSource.breaks c.args.source.now in
    let upto = c.args.end - 1 + 1 in
    let near = near_end n list c.args.after c.args.end (g.met.S.BreakSource.valid c.args.source.now) in
    let to : c.min.result ≡ min n upto = c.min.ensures ∙ ap (λ v. min v (c.saturating_sub-upto.result + 1)) c.len.ensures ∙ ap (λ v. min n (v + 1)) c.saturating_sub-upto.ensures in
    let same : past list c.min.result ≡ past list (min n upto) = ap (past list) to in
    let low : row_start n list c.reach.new.self.top ≤ upto = let e = ap (row_start n list) c.reach.ensures.top in omega (arith, e, c.requires.low) in
    let reached : min n upto ≤ c.reach.new.self.known = subst (λ v. v ≤ c.reach.new.self.known) to c.in_ok-reach.ensures.reached in
    let counted : c.heads_before-below.result ≡ heads_before c.reach.new.self.heads.items upto =
    c.heads_before-below.ensures.exact ∙ ap (λ l. heads_before l (c.saturating_sub-upto.result + 1)) c.deref.ensures.value ∙ ap (λ v. heads_before c.reach.new.self.heads.items (v + 1)) c.saturating_sub-upto.ensures in
    let row = wanted_row n list c.reach.new.self.top c.reach.new.self.known c.reach.new.self.starts.items c.reach.new.self.heads.items upto c.args.after (g.met.S.BreakSource.valid c.args.source.now) c.reach.ensures.held low reached in
    let rises = row_start_mono n list (c.reach.new.self.top + c.saturating_add-want.result) (started list upto + c.args.after + 1) (g.met.S.BreakSource.valid c.args.source.now) (omega (arith, row, counted, c.saturating_add-want.ensures)) in
    let stop = window_row n list c.args.after c.args.end (g.met.S.BreakSource.valid c.args.source.now).ordered (omega (arith, c.if-after-eq0.false)) in
    ⊎_elim (λ still. ⊎_elim (λ before. inl (still ∙ before)) (λ upto. inr (omega (arith, still, upto, same, near))) c.in_ok-reach.ensures.near)
    (λ upto. inr (omega (arith, upto, rises, stop)))
    c.in_ok-gather.ensures.most

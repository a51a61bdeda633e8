use Rattle.std.proofs.Common.{◌≡◌, ◌++◌, ◌∷◌, [], ◌∙◌, ap, length, map, sym, refl, append_assoc, append-nil}
use Rattle.std.proofs.lemmas.List.{map_push}
use Rattle.oxc_plan.specs.Rows.{row_view, rows_from}
use Rattle.oxc_plan.proofs.RowsLemmas.{rows_none}
use Rattle.oxc_plan.proofs.rows.rows_of.Goals as goal

pub loop-row-init : goal.loop-row-init
loop-row-init c = rw (c.new-rows.ensures.items, c.rows_ahead-ahead.ensures.text, c.rows_ahead-ahead.ensures.offset, c.rows_ahead-ahead.ensures.above) refl

pub loop-row-smaller : goal.loop-row-smaller
loop-row-smaller c = c.in-Some.ensures.further

pub loop-row-preserved : goal.loop-row-preserved
loop-row-preserved c =
    let rows = c.loop-row.rows.items in
    let row = row_view c.in-Some.row in
    let left = rows_from c.cut.new.self.above c.cut.new.self.offset c.cut.new.self.text.now in
    let pushed : map row_view c.push.new.self.items ≡ map row_view rows ++ row ∷ [] = ap (map row_view) c.in_ok-push.ensures.items ∙ map_push row_view rows c.in-Some.row in
    ap (λ l. l ++ left) pushed ∙ append_assoc (map row_view rows) (row ∷ []) left
    ∙ ap (λ l. map row_view rows ++ l) (sym c.in-Some.ensures.next) ∙ c.loop-row.invariant

pub returns : goal.returns
returns c =
    let ended = rw c.in_default.is at c.cut.ensures.next in
    let rows = map row_view c.loop-row.rows.items in
    sym (append-nil rows)
    ∙ ap (λ l. rows ++ l) (sym (rows_none c.loop-row.ahead.above c.loop-row.ahead.offset c.loop-row.ahead.text.now (ap length ended)))
    ∙ c.loop-row.invariant

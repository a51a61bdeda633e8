use Rattle.std.proofs.Common.{arith, subst, sym, ◌≡◌, ◌+◌, ◌-◌}
use Rattle.std.specs.String.{string_bytes}
use Rattle.text_places.specs.Ends.{IsRowEnd, AreEnds}
use Rattle.text_places.proofs.page_text.PageText.row_end.Goals as goal

-- the row of that number, from 1, is the listed one before it
pub returns-in-Some : goal.returns-in-Some
returns-in-Some c =
    let back : c.args.row - 1 + 1 ≡ c.args.row = omega (arith, c.requires.some) in
    let bytes = string_bytes c.args.self.now in
    let known = subst (λ s. AreEnds (string_bytes s) c.in-Some.ends.items) c.self.view_is (rw c.in-Some.is at c.self.invariant.1) in
    let end = known.each (c.args.row - 1) c.index.result.now (omega (arith, known.all, c.requires.some, c.requires.within)) in
    subst (λ r. IsRowEnd bytes r c.index.result.now) back (subst (λ p. IsRowEnd bytes (c.args.row - 1 + 1) p) (sym c.index.ensures) end)

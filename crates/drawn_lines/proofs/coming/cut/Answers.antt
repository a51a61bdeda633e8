-- Nothing is written, or the lines that were drawn go.
use Rattle.std.proofs.Common.{◌++◌, Vec, Global, ℕ, map, string_bytes, subst, sym}
use Rattle.drawn_lines.specs.Coming.{IsComing, IsLook}
use Rattle.drawn_lines.proofs.ComingLemmas.{look_drawn}
use Rattle.drawn_lines.proofs.coming.cut.Goals as goal

pub returns-in-Known : goal.returns-in-Known
returns-in-Known g c = λ taken text aside coming.
    let told = g.S.Store.told c.args.store.now in
    let asked = c.args.asked.now in
    let drawn = c.in-Known.drawn in
    let next = c.without_first.result.coming in
    let went = c.without_first.ensures in
    let looked = rw (c.deref.ensures.value, c.deref-2.ensures.value) at c.in_ok-tally.ensures in
    let looks =
    subst (IsLook told asked c.args.tally (map (λ (line : Vec ℕ Global). line.items) c.args.held.lines.items) (map (λ (line : Vec ℕ Global). line.items) c.args.held.came.items))
    c.in-Known.is looked in
    subst (λ t. IsComing told asked taken (text ++ string_bytes t) (aside ++ string_bytes c.without_first.result.aside) next.held next.tally) (sym went.text)
    (subst (λ t. IsComing told asked taken (text ++ string_bytes drawn.text) (aside ++ string_bytes t) next.held next.tally) (sym went.aside)
    (subst (IsComing told asked taken (text ++ string_bytes drawn.text) (aside ++ string_bytes drawn.aside) next.held) (sym went.tally)
    (look_drawn told asked taken text aside (string_bytes drawn.text) (string_bytes drawn.aside) c.args.held next.held c.args.tally drawn.tally c.in-Known.count looks
    went.lines went.came went.tail went.begun coming)))

pub returns-in-Nothing : goal.returns-in-Nothing
returns-in-Nothing g c = λ taken text aside coming.
    let told = g.S.Store.told c.args.store.now in
    let asked = c.args.asked.now in
    let looked = rw (c.deref.ensures.value, c.deref-2.ensures.value) at c.in_ok-tally.ensures in
    let same =
    subst (IsLook told asked c.args.tally (map (λ (line : Vec ℕ Global). line.items) c.args.held.lines.items) (map (λ (line : Vec ℕ Global). line.items) c.args.held.came.items))
    c.in-Nothing.is looked in
    c.unchanged.ensures told asked taken text aside (subst (IsComing told asked taken text aside c.args.held) (sym same) coming)

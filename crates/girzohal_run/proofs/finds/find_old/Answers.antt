-- The names were sought, and then the sources of all were added.
use Rattle.std.proofs.Common.{Bor, List, ℕ, None, map, sym, subst, ap, ◌∙◌}
use Rattle.tool_lines.specs.Lines.{ArePieces, piece_parts}
use Rattle.tool_lines.specs.Paint.{unpainted}
use Rattle.drawn_lines.specs.Named.{name_texts, renamed_by}
use Rattle.drawn_lines.specs.Text.{lines_in_text}
use Rattle.girzohal_run.specs.Lines.{AreSought}
use Rattle.girzohal_run.proofs.NamedLemmas.{finds_old}
use Rattle.girzohal_run.proofs.finds.find_old.Goals as goal

pub returns-clause-found : goal.returns-clause-found
returns-clause-found g c =
    let told = g.S.Store.told c.args.store.now in
    let places = g.P.Store.told c.args.places.now in
    let asked = c.args.asked.now in
    let lines = map (λ (line : Bor (List ℕ)). line.now) c.in_ok-lines.lines.items in
    let pieces = map piece_parts c.in_ok-pieces.pieces.items in
    let names = name_texts c.in_ok-names.names.items in
    let first = c.empty-tried.result.entries.items in
    let middle = c.first_names.new.sources.entries.items in
    let lines_are = c.in_ok-lines.ensures ∙ ap lines_in_text (c.deref.ensures.value ∙ c.in_ok-text.ensures.text ∙ ap unpainted c.without_mark.ensures) in
    let are = subst (λ shapes. ArePieces shapes None lines pieces) c.in_ok-shapes.ensures (rw (c.deref-2.ensures.value, c.deref-3.ensures.value) at c.in_ok-pieces.ensures) in
    let sought = rw (c.deref-4.ensures.value, c.deref-5.ensures.value) at c.in_ok-names.ensures.sought in
    let it = c.in_ok-finds.finds in
    let named_is = rw (c.deref-6.ensures.value, c.deref-7.ensures.value) at c.in_ok-named.ensures in
    finds_old places told asked c.args.bytes.now it.reports.found it.aside.items first middle c.empty-none.result.entries.items lines pieces
    (map piece_parts c.in_ok-named.named.items) c.empty-tried.ensures c.empty-none.ensures lines_are are
    (subst (AreSought places asked first middle lines pieces) (sym named_is) sought)
    (rw (c.deref-8.ensures.value, c.deref-9.ensures.value) at c.in_ok-finds.ensures.found)

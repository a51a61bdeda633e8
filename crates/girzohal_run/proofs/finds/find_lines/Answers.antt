-- The names were sought, and then the sources of all were added.
use Rattle.std.proofs.Common.{Bor, List, ℕ, None, map, string_bytes, sym, subst, ap, ◌∙◌}
use Rattle.tool_lines.specs.Lines.{ArePieces, piece_parts}
use Rattle.tool_lines.specs.Paint.{unpainted}
use Rattle.drawn_lines.specs.Named.{name_texts, renamed_by}
use Rattle.drawn_lines.specs.Text.{lines_in_text}
use Rattle.girzohal_run.specs.Lines.{AreSought}
use Rattle.girzohal_run.proofs.NamedLemmas.{finds_lines, sought_kept}
use Rattle.girzohal_run.proofs.finds.find_lines.Goals as goal

pub returns-then-are_kept-clause-found : goal.returns-then-are_kept-clause-found
returns-then-are_kept-clause-found g c =
    let told = g.S.Store.told c.args.store.now in
    let asked = c.args.asked.now in
    let lines = map (λ (line : Bor (List ℕ)). line.now) c.in_ok-lines.lines.items in
    let pieces = map piece_parts c.in_ok-pieces.pieces.items in
    let names = name_texts c.in_ok-names.names.items in
    let first = c.empty-sources.result.entries.items in
    let middle = c.first_names.new.sources.entries.items in
    let lines_are = c.in_ok-lines.ensures ∙ ap lines_in_text (c.deref.ensures.value ∙ c.in_ok-text.ensures.text ∙ ap unpainted c.without_mark.ensures) in
    let are = subst (λ shapes. ArePieces shapes None lines pieces) c.in_ok-shapes.ensures (rw (c.deref-2.ensures.value, c.deref-3.ensures.value) at c.in_ok-pieces.ensures) in
    let sought = rw (c.deref-4.ensures.value, c.deref-5.ensures.value) at c.in_ok-names.ensures.sought in
    let it = c.in_ok-finds.finds in
    let each = rw c.deref-5.ensures.value at c.in_ok-names.ensures.each in
    let none = rw c.deref-6.ensures.value at c.if-are_kept.ensures in
    finds_lines told asked c.args.bytes.now it.reports.found it.aside.items first middle lines pieces pieces c.empty-sources.ensures lines_are are
    (sought_kept told asked first middle lines pieces names sought each none)
    (rw (c.deref-then-are_kept.ensures.value, c.deref-then-are_kept-2.ensures.value) at c.in_ok-finds.ensures.found)

pub returns-clause-found : goal.returns-clause-found
returns-clause-found g c =
    let told = g.S.Store.told c.args.store.now in
    let asked = c.args.asked.now in
    let lines = map (λ (line : Bor (List ℕ)). line.now) c.in_ok-lines.lines.items in
    let pieces = map piece_parts c.in_ok-pieces.pieces.items in
    let names = name_texts c.in_ok-names.names.items in
    let first = c.empty-sources.result.entries.items in
    let middle = c.first_names.new.sources.entries.items in
    let lines_are = c.in_ok-lines.ensures ∙ ap lines_in_text (c.deref.ensures.value ∙ c.in_ok-text.ensures.text ∙ ap unpainted c.without_mark.ensures) in
    let are = subst (λ shapes. ArePieces shapes None lines pieces) c.in_ok-shapes.ensures (rw (c.deref-2.ensures.value, c.deref-3.ensures.value) at c.in_ok-pieces.ensures) in
    let sought = rw (c.deref-4.ensures.value, c.deref-5.ensures.value) at c.in_ok-names.ensures.sought in
    let it = c.in_ok-finds-2.finds in
    let named_is = rw (c.deref-7.ensures.value, c.deref-8.ensures.value) at c.in_ok-named.ensures in
    finds_lines told asked c.args.bytes.now it.reports.found it.aside.items first middle lines pieces (map piece_parts c.in_ok-named.named.items) c.empty-sources.ensures lines_are are
    (subst (AreSought told asked first middle lines pieces) (sym named_is) sought)
    (rw (c.deref-9.ensures.value, c.deref-10.ensures.value) at c.in_ok-finds-2.ensures.found)

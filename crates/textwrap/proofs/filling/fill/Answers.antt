use Rattle.std.proofs.Common.{◌≡◌, ◌++◌, List, ℕ, sym, ap, ◌∙◌, string_bytes, subst}
use Rattle.textwrap.specs.Filled.{IsFilled, filled}
use Rattle.textwrap.proofs.FilledLemmas.{filled_is}
use Rattle.textwrap.proofs.filling.fill.Goals as goal

pub returns-clause-relation : goal.returns-clause-relation
returns-clause-relation c =
    let width : ℕ = c.args.options.now.width in
    let first : List ℕ = c.args.options.now.initial_indent.now in
    let later : List ℕ = c.args.options.now.subsequent_indent.now in
    let text : List ℕ = c.args.text.now in
    let value : string_bytes c.fill_onto.new.out ≡ filled width first later text = c.in_ok-fill_onto.ensures ∙ ap (λ l. l ++ filled width first later text) c.new-out.ensures.bytes in
    subst (IsFilled width first later text) (sym value) (filled_is width first later text)

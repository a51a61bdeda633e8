-- The places are tried if the name is sought.
use Rattle.std.proofs.Common.{◌∙◌, sym, subst}
use Rattle.source_store.specs.Given.{AddsAll}
use Rattle.source_store.specs.declared.named.Spelling.TheVariants.{Path}
use Rattle.build_dirs.specs.Dirs.{dirs_parts}
use Rattle.drawn_lines.proofs.NamedLemmas.{adds_none, found_sought, none_sought, not_sought, tried_sought}
use Rattle.drawn_lines.proofs.naming.find_name.Goals as goal

pub returns-then-not-is_sought-clause-name : goal.returns-then-not-is_sought-clause-name
returns-then-not-is_sought-clause-name g c = λ given agrees.
    sym (not_sought c.args.root.now given (dirs_parts c.args.dirs.now) c.args.name.now (sym c.is_sought.ensures ∙ c.if-not-is_sought.true))

pub returns-then-not-is_sought-clause-tried : goal.returns-then-not-is_sought-clause-tried
returns-then-not-is_sought-clause-tried g c = λ given agrees.
    let told = g.S.Store.told c.args.store.now in
    let sources = c.args.sources.now.entries.items in
    subst (AddsAll told Path sources sources) (sym (none_sought c.args.root.now given (dirs_parts c.args.dirs.now) c.args.name.now (sym c.is_sought.ensures ∙ c.if-not-is_sought.true)))
    (adds_none told sources)

pub returns-clause-name : goal.returns-clause-name
returns-clause-name g c = λ given agrees.
    c.in_ok-found.ensures.name given agrees
    ∙ sym (found_sought c.args.root.now given (dirs_parts c.args.dirs.now) c.args.name.now (sym c.is_sought.ensures ∙ c.if-not-is_sought.false))

pub returns-clause-tried : goal.returns-clause-tried
returns-clause-tried g c = λ given agrees.
    subst (AddsAll (g.S.Store.told c.args.store.now) Path c.args.sources.now.entries.items c.try_places.new.sources.entries.items)
    (sym (tried_sought c.args.root.now given (dirs_parts c.args.dirs.now) c.args.name.now (sym c.is_sought.ensures ∙ c.if-not-is_sought.false)))
    (c.in_ok-found.ensures.tried given agrees)

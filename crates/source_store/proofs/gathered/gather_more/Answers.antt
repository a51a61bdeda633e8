-- One name more, and in the end all of them.
use Rattle.std.proofs.Common.{◌≡◌, ◌+◌, ◌∷◌, [], ◌++◌, map, take, string_bytes, subst, sym, ap, ◌∙◌}
use Rattle.std.proofs.lemmas.List.{take_more, take_all, map-append}
use Rattle.source_store.specs.Given.{Adds, AddsAll}
use Rattle.source_store.proofs.GivenLemmas.{adds_next, adds_nothing}
use Rattle.source_store.proofs.gathered.gather_more.Goals as goal

pub loop-name-init : goal.loop-name-init
loop-name-init g c = adds_nothing (g.S.Store.told c.args.store.now) c.args.spelling (g.L.SourceList.entries c.args.sources.now)

pub loop-name-preserved : goal.loop-name-preserved
loop-name-preserved g c =
    let name = c.name-item.result in
    let old = (g.L.SourceList.entries c.args.sources.now) in
    let before = (g.L.SourceList.entries c.loop-name.sources) in
    let now = (g.L.SourceList.entries c.add.new.sources) in
    let first = take c.loop-name.name-index c.args.names.now in
    let next : take (c.loop-name.name-index + 1) c.args.names.now ≡ first ++ name ∷ [] =
    take_more c.args.names.now c.loop-name.name-index name c.loop-name-test.true ∙ ap (λ x. first ++ x ∷ []) (sym c.name-item.is) in
    let adds = subst (Adds (g.S.Store.told c.args.store.now) c.args.spelling before now) c.as_str.ensures.value c.in_ok-add.ensures in
    subst (AddsAll (g.S.Store.told c.args.store.now) c.args.spelling old now)
    (sym (ap (map string_bytes) next ∙ map-append string_bytes first (name ∷ [])))
    (adds_next (g.S.Store.told c.args.store.now) c.args.spelling old before now (map string_bytes first) (string_bytes name) c.loop-name.invariant adds)

pub returns : goal.returns
returns g c =
    subst (λ names. AddsAll (g.S.Store.told c.args.store.now) c.args.spelling (g.L.SourceList.entries c.args.sources.now) (g.L.SourceList.entries c.loop-name.sources) (map string_bytes names))
    (take_all c.loop-name.name-index c.args.names.now c.loop-name-test.false) c.loop-name.invariant

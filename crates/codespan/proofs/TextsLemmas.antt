-- What a change of one file makes of the list of named texts.
use Rattle.std.proofs.Common.{◌≡◌, ℕ, ◌<◌, List, [], length, map, set, get_or, sym, ap, ◌∙◌, arith, slice_set, slice_index_or}
use Rattle.std.proofs.lemmas.List.{length-map, map-set, get_or-map}
use Rattle.codespan.specs.Texts.{NamedText, name_of, with_text}

-- a file with the old name and another text changes the text alone
pub replaced : {F : Type 0} (named : F → NamedText) (files : List F) (list : List NamedText) (at id : ℕ) (old new : F)
    → map named files ≡ list → at ≡ id → id < length list → old ≡ slice_index_or files at old → (named new).name ≡ (named old).name
    → map named (slice_set files at new) ≡ with_text list id (named new).text
replaced named files list at id old new is same within here name =
    let inside : at < length files = omega (arith, within, same, ap length is, length-map files named) in
    let none : NamedText = record { name = []; text = [] } in
    let old_name : (named new).name ≡ name_of list id =
    name ∙ ap (λ file. (named file).name) here ∙ sym (ap (λ file. file.name) (get_or-map named files at old none inside))
    ∙ ap (λ l. (get_or l at none).name) is ∙ ap (λ k. (get_or list k none).name) same in
    map-set named files at new
    ∙ ap (λ l. set l at (named new)) is
    ∙ ap (λ k. set list k (named new)) same
    ∙ ap (λ known. set list id (record { name = known; text = (named new).text })) old_name

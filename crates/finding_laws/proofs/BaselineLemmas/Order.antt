-- The order of entries.
use Rattle.std.proofs.Common.{◌≡◌, Bool, true, false, List, [], ◌∷◌, map, refl, sym, ap, ◌∙◌, subst}
use Rattle.std.specs.List.Sorted.{IsPermutation}
use Rattle.std.proofs.lemmas.List.Sorted.{IsPermutation-map}
use Rattle.finding_filters.specs.Baseline.{ItemParts}
use Rattle.finding_filters.specs.Finding.{FindingParts}
use Rattle.finding_filters.proofs.OrderLemmas.{known_same}
use Rattle.filtered_findings.specs.Repeats.{no_repeats, repeats_if}
use Rattle.filtered_findings.specs.Verdicts.{entries_of, item_of, items_of, taken_in, twice_in, verdicts_from, verdicts_of}
use Rattle.filtered_findings.specs.declared.verdicts.Filters.{Filters}
use Rattle.finding_laws.specs.Baselines.Findings.{not_twice, once_in}

entries_are : (filters : Filters) (old : List FindingParts) (flags : List Bool) → entries_of filters old flags ≡ map (item_of filters false) (not_twice old flags)
entries_are filters [] flags = refl
entries_are filters (it ∷ old) [] = refl
entries_are filters (it ∷ old) (true ∷ flags) = entries_are filters old flags
entries_are filters (it ∷ old) (false ∷ flags) = ap (λ (those : List ItemParts). item_of filters false it ∷ those) (entries_are filters old flags)

all_once : (old : List FindingParts) → not_twice old (no_repeats old) ≡ old
all_once [] = refl
all_once (it ∷ old) = ap (λ (those : List FindingParts). it ∷ those) (all_once old)

pub same_verdicts : (filters : Filters) (its old others : List FindingParts) → IsPermutation (once_in filters old) (once_in filters others)
    → verdicts_of filters its old ≡ verdicts_of filters its others
unfolding verdicts_of
same_verdicts filters its old others same =
    let entries : IsPermutation (map (item_of filters false) (once_in filters old)) (map (item_of filters false) (once_in filters others)) =
    IsPermutation-map (item_of filters false) (once_in filters old) (once_in filters others) same in
    let taken : taken_in filters its old ≡ taken_in filters its others =
    known_same (items_of filters its) (twice_in filters its) (entries_of filters old (twice_in filters old)) (entries_of filters others (twice_in filters others))
    (subst (λ (those : List ItemParts). IsPermutation those (entries_of filters others (twice_in filters others))) (sym (entries_are filters old (twice_in filters old)))
    (subst (λ (those : List ItemParts). IsPermutation (map (item_of filters false) (once_in filters old)) those) (sym (entries_are filters others (twice_in filters others))) entries)) in
    ap (λ (flags : List Bool). verdicts_from filters its (twice_in filters its) flags) taken

once_is : (filters : Filters) (old : List FindingParts) → filters.unique ≡ false → once_in filters old ≡ old
once_is filters old plain = ap (λ (unique : Bool). not_twice old (repeats_if unique old)) plain ∙ all_once old

pub same_verdicts_of_all : (filters : Filters) (its old others : List FindingParts) → filters.unique ≡ false → IsPermutation old others
    → verdicts_of filters its old ≡ verdicts_of filters its others
same_verdicts_of_all filters its old others plain same =
    same_verdicts filters its old others
    (subst (λ (those : List FindingParts). IsPermutation those (once_in filters others)) (sym (once_is filters old plain))
    (subst (λ (those : List FindingParts). IsPermutation old those) (sym (once_is filters others plain)) same))

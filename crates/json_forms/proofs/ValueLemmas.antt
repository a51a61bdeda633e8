-- Two forms are refused; the first refusal of several.
use Rattle.std.proofs.Common.{◌≡◌, ℕ, suc, ◌+◌, ◌<◌, List, [], ◌∷◌, ◌++◌, length, get_or, drop, Option, Some, None, IfSome, refl, take, ◌∙◌, ap, sym, map, flat_map, drop-cons, add-one}
use Rattle.std.specs.declared.alloc.Global.{Global}
use Rattle.json.specs.Value.{value_view}
use Rattle.json.specs.declared.value.Value.{Value}
use Rattle.json_forms.specs.declared.told.Forms.{Forms}
use Rattle.std.specs.Option.{option_or}
use Rattle.json.specs.Json.{Json}
use Rattle.json_spots.specs.declared.step.Wanted.TheVariants as wanted
use Rattle.json_forms.specs.declared.form.Form.{Form}
use Rattle.json_forms.specs.Finding.{Outcome}
use Rattle.json_forms.specs.Read.{Reading, Refusal, first_refusal}
use Rattle.std.proofs.Math.Seq.{append_snoc}
use Rattle.std.proofs.lemmas.List.{append_assoc, map-append}
use Rattle.json_forms.proofs.ReadLemmas.{refusal_append}
use Rattle.json_forms.specs.Values.{ReadsBoth, answers, answers_by, one_reading, reading_of, whole_refusal}

pub two_refused : (form other : Form) (forms : List Form) (value : Json) → take 2 forms ≡ form ∷ other ∷ [] → first_refusal (answers_by forms value) ≡ Some (whole_refusal value wanted.OneForm)
two_refused form other [] value h = cc
two_refused form other (one ∷ []) value h = cc
two_refused form other (one ∷ two ∷ forms) value h = refl

pub none_before : (a b : List Outcome) → first_refusal a ≡ None → first_refusal (a ++ b) ≡ first_refusal b
none_before a b h = refusal_append a b ∙ ap (λ it. option_or it (first_refusal b)) h

pub refused_before : (a b : List Outcome) (it : Refusal) → first_refusal a ≡ Some it → first_refusal (a ++ b) ≡ Some it
refused_before a b it h = refusal_append a b ∙ ap (λ found. option_or found (first_refusal b)) h

pub refused_of : (said : Option Refusal) (all a b : List Outcome) → first_refusal all ≡ first_refusal (a ++ b) → IfSome said (λ it. first_refusal a ≡ Some it) → IfSome said (λ it. first_refusal all ≡ Some it)
refused_of None all a b same h = h
refused_of (Some it) all a b same h = same ∙ refused_before a b it h

-- the values from an index on: the one there, and those after it
pub from_here : (values : List (Value Global)) (at : ℕ) (value : Value Global) → at < length values → value ≡ get_or values at value → drop at values ≡ value ∷ drop (at + 1) values
from_here values at value within is = drop-cons values at value within ∙ ap (λ v. v ∷ drop (suc at) values) (sym is) ∙ ap (λ n. value ∷ drop n values) (sym (add-one at))

pub refused_here : (forms : Forms) (values : List (Value Global)) (at : ℕ) (value : Value Global) (said : Option Refusal) → at < length values → value ≡ get_or values at value
    → first_refusal (flat_map (answers forms) (map value_view values)) ≡ first_refusal (flat_map (answers forms) (map value_view (drop at values)))
    → IfSome said (λ it. first_refusal (answers forms (value_view value)) ≡ Some it)
    → IfSome said (λ it. first_refusal (flat_map (answers forms) (map value_view values)) ≡ Some it)
refused_here forms values at value said within is same h =
    refused_of said (flat_map (answers forms) (map value_view values)) (answers forms (value_view value)) (flat_map (answers forms) (map value_view (drop (at + 1) values)))
    (same ∙ ap (λ vs. first_refusal (flat_map (answers forms) (map value_view vs))) (from_here values at value within is)) h

pub none_here : (forms : Forms) (values : List (Value Global)) (at : ℕ) (value : Value Global) → at < length values → value ≡ get_or values at value
    → first_refusal (flat_map (answers forms) (map value_view values)) ≡ first_refusal (flat_map (answers forms) (map value_view (drop at values)))
    → first_refusal (answers forms (value_view value)) ≡ None
    → first_refusal (flat_map (answers forms) (map value_view values)) ≡ first_refusal (flat_map (answers forms) (map value_view (drop (at + 1) values)))
none_here forms values at value within is same h =
    same ∙ ap (λ vs. first_refusal (flat_map (answers forms) (map value_view vs))) (from_here values at value within is)
    ∙ none_before (answers forms (value_view value)) (flat_map (answers forms) (map value_view (drop (at + 1) values))) h

pub read_here : (forms : Forms) (values : List (Value Global)) (at : ℕ) (value : Value Global) (old before after : List Reading) (reading : Reading) → at < length values → value ≡ get_or values at value
    → old ++ map (reading_of forms) (map value_view values) ≡ before ++ map (reading_of forms) (map value_view (drop at values))
    → after ≡ before ++ one_reading reading → reading ≡ reading_of forms (value_view value)
    → old ++ map (reading_of forms) (map value_view values) ≡ after ++ map (reading_of forms) (map value_view (drop (at + 1) values))
read_here forms values at value old before after reading within is same more said =
    let rest : List Reading = map (reading_of forms) (map value_view (drop (at + 1) values)) in
    same ∙ ap (λ vs. before ++ map (reading_of forms) (map value_view vs)) (from_here values at value within is)
    ∙ sym (append_snoc before (reading_of forms (value_view value)) rest)
    ∙ ap (λ all. all ++ rest) (ap (λ it. before ++ one_reading it) (sym said) ∙ sym more)

pub both_read : (forms : Forms) (values : List (Value Global)) (old all : List Reading) → all ≡ old ++ map (reading_of forms) (map value_view values) → ReadsBoth forms values old all
both_read forms values old all same front back cut =
    same ∙ ap (λ vs. old ++ map (reading_of forms) (map value_view vs)) cut
    ∙ ap (λ read. old ++ map (reading_of forms) read) (map-append value_view front back)
    ∙ ap (λ read. old ++ read) (map-append (reading_of forms) (map value_view front) (map value_view back))
    ∙ sym (append_assoc old (map (reading_of forms) (map value_view front)) (map (reading_of forms) (map value_view back)))

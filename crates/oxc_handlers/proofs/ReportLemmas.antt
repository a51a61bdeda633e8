-- The snippets of a report, and why it is refused.
use Rattle.std.proofs.Common.{◌≡◌, ℕ, ◌<◌, ◌≤◌, nat_lt, Bool, false, get_or, List, [], Option, Some, None, IfSome, Result, Ok, Err, OnOk, All, length, refl, sym, ap, subst, ◌∙◌, arith}
use Rattle.std.specs.Option.{option_map_or}
use Rattle.std.specs.List.{position_or_len}
use Rattle.std.proofs.lemmas.Bool.Decides.{nat_tests}
use Rattle.std.proofs.lemmas.Bool.{lt-ltb}
use Rattle.std.proofs.lemmas.List.{nil_from_length, take_all}
use Rattle.std.proofs.lemmas.List.Elements.{All-from_get_or}
use Rattle.std.proofs.lemmas.List.Quantifiers.{position-Some}
use Rattle.std.proofs.lemmas.List.Sums.{fails_before_first}
use Rattle.std.specs.Str.{IsUtf8, IsValidUpTo}
use Rattle.oxc_span.specs.Label.{Label, label_end}
use Rattle.oxc_windows.specs.Scan.{Scan}
use Rattle.oxc_plan.specs.Keeping.{ReadsOn}
use Rattle.oxc_plan.specs.Groups.{groups_from, groups_of}
use Rattle.oxc_plan.specs.Order.{label_order, ordered, spans_in_order}
use Rattle.oxc_plan.specs.Plan.{SnippetView, snippets_of}
use Rattle.oxc_protocol.specs.Parts.{Parts}
use Rattle.oxc_protocol.specs.Source.{SourceParts}
use Rattle.oxc_handlers.specs.Scanners.{HoldsLabels, IsDrawerOf, IsTaken}
use Rattle.oxc_handlers.specs.Refusals.{IsNoText, IsFaultless, first_outside, outside_in}
use Rattle.oxc_handlers.specs.Report.{name_in, snippets_in}

pub no_snippets : (tab : ℕ) (parts : Parts) → parts.source ≡ None → [] ≡ snippets_in tab parts
unfolding snippets_in
no_snippets tab parts none = rw none refl

pub known_snippets : (tab : ℕ) (parts : Parts) (source : SourceParts) (input : List ℕ) (snippets : List SnippetView) → parts.source ≡ Some source → IfSome parts.source (λ s. s.bytes ≡ input)
    → snippets ≡ snippets_of tab input parts.labels → snippets ≡ snippets_in tab parts
unfolding snippets_in
known_snippets tab parts source input snippets there same e =
    let bytes : source.bytes ≡ input = (rw there at same) in
    e ∙ (rw there (ap (λ bs. snippets_of tab bs parts.labels) (sym bytes)))

-- where no label ends past the source, there is no first one that does
none_fail : (len : ℕ) (labels : List Label) → All (λ label. label_end label ≤ len) labels → first_outside len labels ≡ None
none_fail len labels within =
    let p : Label → Bool = λ label. nat_lt len (label_end label) in
    elim (first_outside len labels) as (λ v. first_outside len labels ≡ v → v ≡ None) [
      | Some i ↦ λ e.
          let d : Label = record { text = None; offset = 0; len = 0; primary = false } in
          let at = position-Some p labels i d e in
          let le : label_end (get_or labels i d) ≤ len = within i d at.0 in
          absurd (let lt = at.1 in grind (arith, nat_tests))
      | None ↦ λ e. refl
    ] refl

pub no_text : (parts : Parts) (source : SourceParts) (upto : ℕ) → parts.source ≡ Some source → All (λ label. label_end label ≤ length source.bytes) parts.labels → 0 < length parts.labels → IsValidUpTo source.bytes upto
    → (◌≡◌ {A = ℕ} 0 0) × (outside_in parts ≡ None) × IsNoText parts upto
unfolding outside_in
no_text parts source upto there within some valid = (
  refl,
  rw there (none_fail (length source.bytes) parts.labels within),
  record { labels = some; source = source; there = there; upto = valid },
)

pub same_bytes : (parts : Parts) (source : SourceParts) (input : List ℕ) → parts.source ≡ Some source → IfSome parts.source (λ s. s.bytes ≡ input) → source.bytes ≡ input
same_bytes parts source input there same = (rw there at same)

-- labels of which none ends past the source
pub none_outside : (len : ℕ) (labels : List Label) → first_outside len labels ≡ None → All (λ label. label_end label ≤ len) labels
none_outside len labels e =
    let p : Label → Bool = λ label. nat_lt len (label_end label) in
    let d : Label = record { text = None; offset = 0; len = 0; primary = false } in
    let none : position_or_len p labels < length labels → ⊥ = λ lt. let found : Some (position_or_len p labels) ≡ None = (rw (lt-ltb _ _ lt) at e) in cc in
    All-from_get_or (λ label. label_end label ≤ len) labels d
    (λ i lt. let fails = fails_before_first p labels i d (omega (arith, lt, none)) in grind (arith, nat_tests))

pub outside_there : (parts : Parts) (source : SourceParts) (bytes : List ℕ) (label : ℕ) → parts.source ≡ Some source → bytes ≡ source.bytes → first_outside (length bytes) parts.labels ≡ Some label
    → (◌≡◌ {A = ℕ} 0 0) × (outside_in parts ≡ Some label)
unfolding outside_in
outside_there parts source bytes label there same found = (refl, rw there (ap (λ bs. first_outside (length bs) parts.labels) (sym same) ∙ found))

pub whole_source : (parts : Parts) (source : SourceParts) (input : List ℕ) → parts.source ≡ Some source → input ≡ source.bytes → parts.source ≡ Some (record { bytes = input; name = name_in parts })
unfolding name_in
whole_source parts source input there same = rw (there, same) refl

-- without labels there are no snippets
no_labels : (tab : ℕ) (source : List ℕ) → snippets_of tab source [] ≡ []
unfolding snippets_of groups_of groups_from spans_in_order label_order ordered
no_labels tab source = refl

none_of : (tab : ℕ) (found : Option SourceParts) (labels : List Label) → labels ≡ [] → [] ≡ option_map_or (λ source. snippets_of tab source.bytes labels) found []
none_of tab None labels e = refl
none_of tab (Some source) labels e = rw e (sym (no_labels tab source.bytes))

pub no_label_snippets : (tab : ℕ) (parts : Parts) → length parts.labels ≡ 0 → [] ≡ snippets_in tab parts
unfolding snippets_in
no_label_snippets tab parts e = none_of tab parts.source parts.labels (nil_from_length parts.labels e)

-- what a drawing that went on with a scanner leaves
leaves : (parts : Parts) (source : SourceParts) (handed_in : Option Scan) (taken new : Scan) → parts.source ≡ Some source → IsTaken source.bytes handed_in taken → ReadsOn taken new
    → HoldsLabels taken.input parts.labels taken new → IsDrawerOf parts handed_in (Some new)
leaves parts source handed_in taken new there is on holds =
    rw there
    (λ some.
    record {
      reader = record { old = taken; new = new; there = refl; taken = is; on = on };
      holds = subst (λ bytes. HoldsLabels bytes parts.labels taken new) is.reads holds;
    })

on_ok : {T E : Type 0} (P Q : Type 0) → (P → Q) → (r : Result T E) → OnOk r P → OnOk r Q
on_ok P Q f (Ok value) p = f p
on_ok P Q f (Err e) p = tt

pub leaves_on_ok : {T E : Type 0} (r : Result T E) (parts : Parts) (source : SourceParts) (bytes : List ℕ) (held handed_in : Option Scan) (taken new : Scan) → parts.source ≡ Some source → bytes ≡ source.bytes → held ≡ handed_in
    → IsTaken bytes held taken → ReadsOn taken new → OnOk r (HoldsLabels taken.input parts.labels taken new) → OnOk r (IsDrawerOf parts handed_in (Some new))
leaves_on_ok r parts source bytes held handed_in taken new there same was is on holds =
    let here : IsTaken source.bytes handed_in taken = subst (λ bs. IsTaken bs handed_in taken) same (subst (λ h. IsTaken bytes h taken) was is) in
    on_ok (HoldsLabels taken.input parts.labels taken new) (IsDrawerOf parts handed_in (Some new)) (λ h. leaves parts source handed_in taken new there here on h) r holds

-- what can be drawn is not refused
pub not_outside : {Q : Type 0} (parts : Parts) (label : ℕ) → IsFaultless parts → outside_in parts ≡ Some label → Q
unfolding outside_in
not_outside {Q = Q} parts label is found =
    elim parts.source as (λ v. parts.source ≡ v → Q) [
      | Some source ↦ λ there.
          let within : All (λ l. label_end l ≤ length source.bytes) parts.labels = (rw there at is.within) in
          let some : first_outside (length source.bytes) parts.labels ≡ Some label = (rw there at found) in
          let no : None ≡ Some label = sym (none_fail (length source.bytes) parts.labels within) ∙ some in cc
      | None ↦ λ there. let no : None ≡ Some label = (rw there at found) in cc
    ] refl

pub not_no_text : {Q : Type 0} (parts : Parts) (source : SourceParts) (upto : ℕ) → parts.source ≡ Some source → IsFaultless parts → 0 < length parts.labels → ¬ IsUtf8 source.bytes → Q
not_no_text parts source upto there is some other =
    let text : IsUtf8 source.bytes = (rw there at is.text some) in
    absurd (other text)

pub faultless_there : (parts : Parts) (source : SourceParts) (input : List ℕ) → parts.source ≡ Some source → input ≡ source.bytes → All (λ label. label_end label ≤ length source.bytes) parts.labels → IsUtf8 input → IsFaultless parts
faultless_there parts source input there same within utf8 =
    let text : IsUtf8 source.bytes = subst IsUtf8 same utf8 in
    record { within = rw there within; text = λ some. rw there text }

-- The form of the value that the XML of findings is read as.
use Rattle.std.proofs.Common.{◌≡◌, ◌∙◌, ◌||◌, not, if◌then◌else◌, cond, List, [], ◌∷◌, filter, find, Bool, true, false, Some, None, option_map, ap, ap₂, codes, refl, sym, inl, inr}
use Rattle.std.specs.List.{list_all, list_any}
use Rattle.std.specs.Str.{bytes_eq}
use Rattle.std.proofs.lemmas.Bool.{and_from, and_left, and_parts, and_right, false≢true, not-true, or_cases, or_from}
use Rattle.json.specs.Find.{later_or}
use Rattle.json.specs.Json.{Json, object, Members, member, no_members}
use Rattle.json_spots.specs.declared.step.Step.{Step}
use Rattle.json_spots.specs.declared.step.Step.TheVariants.{Key, Nth, Each, Member}
use Rattle.json_spots.specs.declared.mark.Kinds.{Kinds}
use Rattle.json_spots.specs.declared.mark.MarkRow.{MarkRow}
use Rattle.json_spots.specs.Mark.{has, holds, leads_to, some_found}
use Rattle.json_forms.specs.declared.form.Form.{Form}
use Rattle.json_forms.specs.declared.told.Forms.{Forms}
use Rattle.json_forms.specs.Told.{candidates, first_lead, fits, is_open, known_candidates, own_or, row_is_open, steps_open, tool_name, unless_none}
use Rattle.ci_formats.specs.Finding.{FindingParts}
use Rattle.finding_laws.specs.Checkstyle.Told.{is_apart, is_of_checkstyle, IsToldAlone, lead_in, lead_past, misses_it, takes_it}
use Rattle.finding_laws.specs.Checkstyle.Value.{checkstyle_value}

abbrev with_root : Members → Json
with_root root = object (member (codes "checkstyle") (object root) no_members)

found_if : (Json → Bool) → Members → Bool → Bool
found_if test root is = some_found test (later_or None (cond is (Some (object root)) None))

past_leads : (kinds : Kinds) (steps : List Step) (root : Members) → lead_past steps ≡ true → leads_to kinds steps (with_root root) ≡ false
unfolding leads_to found_if
past_leads kinds [] root is = absurd (false≢true is)
past_leads kinds (Key key ∷ steps) root is = ap (found_if (leads_to kinds steps) root) (not-true (bytes_eq (codes "checkstyle") key.now) is)
past_leads kinds (Nth at ∷ steps) root is = refl
past_leads kinds (Each ∷ steps) root is = refl
past_leads kinds (Member ∷ steps) root is = absurd (false≢true is)

in_leads : (kinds : Kinds) (steps : List Step) (root : Members) → kinds.object ≡ true → lead_in steps ≡ true → leads_to kinds steps (with_root root) ≡ true
unfolding leads_to found_if
in_leads kinds [] root takes is = takes
in_leads kinds (Key key ∷ []) root takes is = ap (found_if (leads_to kinds []) root) is ∙ takes
in_leads kinds (Key key ∷ (step ∷ steps)) root takes is = absurd (false≢true is)
in_leads kinds (Nth at ∷ steps) root takes is = absurd (false≢true is)
in_leads kinds (Each ∷ steps) root takes is = absurd (false≢true is)
in_leads kinds (Member ∷ steps) root takes is = absurd (false≢true is)

row_taken : (row : MarkRow) (root : Members) → takes_it row ≡ true → holds row (with_root root) ≡ true
unfolding holds
row_taken row root is =
    let parts = and_parts row.kinds.object (lead_in row.steps.items) is in
    rw (in_leads row.kinds row.steps.items root parts.0 parts.1) refl

row_missed : (row : MarkRow) (root : Members) → misses_it row ≡ true → holds row (with_root root) ≡ false
unfolding holds
row_missed row root is =
    let parts = and_parts (not row.kinds.nothing) (lead_past row.steps.items) is in
    rw (past_leads row.kinds row.steps.items root parts.1, not-true row.kinds.nothing parts.0) refl

mark_held : (rows : List MarkRow) (root : Members) → list_all takes_it rows ≡ true → has rows (with_root root) ≡ true
unfolding has
mark_held [] root all = refl
mark_held (row ∷ rows) root all =
    let parts = and_parts (takes_it row) (list_all takes_it rows) all in
    and_from (holds row (with_root root)) (has rows (with_root root)) (row_taken row root parts.0) (mark_held rows root parts.1)

mark_missed : (rows : List MarkRow) (root : Members) → list_any misses_it rows ≡ true → has rows (with_root root) ≡ false
unfolding has
mark_missed [] root any = absurd (false≢true any)
mark_missed (row ∷ rows) root any =
    elim (or_cases (misses_it row) (list_any misses_it rows) any) [
      | inl mine ↦ and_left (holds row (with_root root)) (has rows (with_root root)) (row_missed row root mine)
      | inr others ↦ and_right (holds row (with_root root)) (has rows (with_root root)) (mark_missed rows root others)
    ]

steps_shut : (steps : List Step) → lead_in steps ≡ true → steps_open steps ≡ false
steps_shut [] is = refl
steps_shut (Key key ∷ steps) is = refl
steps_shut (Nth at ∷ steps) is = refl
steps_shut (Each ∷ steps) is = refl
steps_shut (Member ∷ steps) is = absurd (false≢true is)

mark_shut : (rows : List MarkRow) → list_all takes_it rows ≡ true → list_any row_is_open rows ≡ false
mark_shut [] all = refl
mark_shut (row ∷ rows) all =
    let parts = and_parts (takes_it row) (list_all takes_it rows) all in
    let mine = and_parts row.kinds.object (lead_in row.steps.items) parts.0 in
    or_from (row_is_open row) (list_any row_is_open rows) (steps_shut row.steps.items mine.1) (mark_shut rows parts.1)

fits_if : Bool → Bool → Bool
fits_if opened held = if (if opened then false else not false) then held else false

never : (b : Bool) → (if b then false else false) ≡ false
never true = refl
never false = refl

fits_same : (form : Form) (root : Members) → (is_of_checkstyle form || is_apart form) ≡ true → (own : Bool) → is_of_checkstyle form ≡ own → fits false (with_root root) form ≡ own
unfolding fits_if
fits_same form root told true is = ap₂ fits_if (mark_shut form.mark.items is) (mark_held form.mark.items root is)
fits_same form root told false is =
    let apart : is_apart form ≡ true = sym (ap (λ b. b || is_apart form) is) ∙ told in
    elim (or_cases (is_open form) (list_any misses_it form.mark.items) apart) [
      | inl opened ↦ ap (λ o. fits_if o (has form.mark.items (with_root root))) opened
      | inr missed ↦ ap (fits_if (is_open form)) (mark_missed form.mark.items root missed) ∙ never (if is_open form then false else not false)
    ]

told_same : (forms : List Form) (root : Members) → list_all (λ it. is_of_checkstyle it || is_apart it) forms ≡ true → filter (fits false (with_root root)) forms ≡ filter is_of_checkstyle forms
told_same [] root all = refl
told_same (form ∷ forms) root all =
    let parts = and_parts (is_of_checkstyle form || is_apart form) (list_all (λ it. is_of_checkstyle it || is_apart it) forms) all in
    ap₂ (λ b l. cond b (form ∷ l) l) (fits_same form root parts.0 (is_of_checkstyle form) refl) (told_same forms root parts.1)

root_alone : (forms : Forms) (root : Members) → IsToldAlone forms (with_root root)
unfolding candidates
root_alone forms root form own tool all one =
    let value : Json = with_root root in
    ap (λ its. own_or (find (first_lead value) its) (known_candidates (tool_name forms) forms.known.items value)) own
    ∙ (ap (λ it. known_candidates (option_map (λ name. name.now) it) forms.known.items value) tool
    ∙ ap (λ l. unless_none l (filter (fits true value) forms.known.items)) (told_same forms.known.items root all ∙ one))

pub told_alone : (forms : Forms) (findings : List FindingParts) → IsToldAlone forms (checkstyle_value findings)
unfolding checkstyle_value
told_alone forms findings = root_alone forms _

-- Outcomes after others.
use Rattle.std.proofs.Common.{◌≡◌, List, [], ◌∷◌, ◌++◌, refl, ap, sym, filter_map, length, arith}
use Rattle.std.specs.Option.{option_or}
use Rattle.std.proofs.lemmas.Grind.{common_steps}
use Rattle.json.specs.Json.{Json}
use Rattle.json_forms.specs.declared.form.List as code_list
use Rattle.json_forms.specs.Finding.{Outcome, left, aside, null_at, found, refused}
use Rattle.json_forms.specs.Read.{Reading, said, null_there, taken, first_refusal, found_in, aside_in, outcome_list, outcomes_of}

found_append : (a b : List Outcome) → filter_map found_in (a ++ b) ≡ filter_map found_in a ++ filter_map found_in b
found_append [] b = refl
found_append (left ∷ a) b = found_append a b
found_append (aside text ∷ a) b = found_append a b
found_append (null_at spot ∷ a) b = found_append a b
found_append (found it ∷ a) b = ap (λ rest. it ∷ rest) (found_append a b)
found_append (refused spot fault ∷ a) b = found_append a b

aside_append : (a b : List Outcome) → filter_map aside_in (a ++ b) ≡ filter_map aside_in a ++ filter_map aside_in b
aside_append [] b = refl
aside_append (left ∷ a) b = aside_append a b
aside_append (aside text ∷ a) b = ap (λ rest. said text ∷ rest) (aside_append a b)
aside_append (null_at spot ∷ a) b = ap (λ rest. null_there spot ∷ rest) (aside_append a b)
aside_append (found it ∷ a) b = aside_append a b
aside_append (refused spot fault ∷ a) b = aside_append a b

pub taken_append : (reading : Reading) (a b : List Outcome) → taken reading (a ++ b) ≡ taken (taken reading a) b
unfolding taken
taken_append reading a b = rw (found_append a b, aside_append a b) (grind (arith, common_steps))

pub taken_cons : (reading : Reading) (o : Outcome) (b : List Outcome) → taken reading (o ∷ b) ≡ taken (taken reading (outcome_list o)) b
taken_cons reading o b = taken_append reading (outcome_list o) b

pub taken_none : (reading : Reading) → taken reading [] ≡ reading
unfolding taken
taken_none reading = grind (arith, common_steps)

pub taken_left : (reading : Reading) → taken reading (outcome_list left) ≡ reading
unfolding taken
taken_left reading = grind (arith, common_steps)

pub refusal_append : (a b : List Outcome) → first_refusal (a ++ b) ≡ option_or (first_refusal a) (first_refusal b)
refusal_append [] b = refl
refusal_append (left ∷ a) b = refusal_append a b
refusal_append (aside text ∷ a) b = refusal_append a b
refusal_append (null_at spot ∷ a) b = refusal_append a b
refusal_append (found it ∷ a) b = refusal_append a b
refusal_append (refused spot fault ∷ a) b = refl

pub taken_of_none : (reading : Reading) (lists : List code_list.List) (value : Json) → length lists ≡ 0 → reading ≡ taken reading (outcomes_of lists value)
taken_of_none reading [] value h = sym (taken_none reading)
taken_of_none reading (list ∷ lists) value h = absurd (omega arith)

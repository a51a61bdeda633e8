-- Why nothing is made of values, and what follows of what is.
use Rattle.std.proofs.Common.{◌≡◌, ◌⊎◌, ℕ, List, String, Option, Result, Ok, Err, inl, inr, subst, sym}
use Rattle.std.specs.Prelude.{IfErr, IfOk}
use Rattle.std.specs.declared.alloc.Global.{Global}
use Rattle.json.specs.Json.{Json}
use Rattle.json_forms.specs.declared.cut.Piece.{Piece}
use Rattle.json_forms.specs.declared.told.Forms.{Forms}
use Rattle.json_inputs.specs.Forms.{IsNoForms}
use Rattle.json_inputs.specs.Input.{IsRefused}
use Rattle.json_inputs.specs.Parts.{rows_from}
use Rattle.json_inputs.specs.Values.{IsNoJson, SaysRefused}
use Rattle.json_inputs.specs.declared.error.InputError.{InputError}
use Rattle.json_inputs.specs.declared.error.InputError.TheVariants as input
use Rattle.input_forms.specs.Begun.{behind_mark}
use Rattle.girzohal_run.specs.Made.{HasCause, Says, SaysWhy}
use Rattle.girzohal_run.specs.Values.{HasValues, IsNoValues}
use Rattle.girzohal_run.specs.declared.fault.Fault.{Fault}
use Rattle.girzohal_run.specs.declared.fault.Fault.TheVariants.{NoForm, OutOfMemory}

-- a fault says what its error says, and more follows from that
pub says_more : {P Q : List ℕ → Type 0} (why : InputError) (fault : Fault) → ((line : List ℕ) → P line → Q line) → SaysRefused P why → SaysWhy why fault → Says Q fault
says_more {P} {Q} (input.Refused line) (NoForm said) more cause says = subst Q (sym says) (more _ cause)
says_more (input.Refused line) OutOfMemory more cause says = tt
says_more input.OutOfMemory (NoForm said) more cause says = absurd says
says_more input.OutOfMemory OutOfMemory more cause says = tt

pub no_json : (own : List (String Global)) (tool : Option (String Global)) (bytes : List ℕ) (why : InputError) (fault : Fault) → SaysRefused (IsNoJson (behind_mark bytes)) why
    → SaysWhy why fault → HasCause (IsNoValues own tool) bytes fault
no_json own tool bytes why fault cause says = says_more why fault (λ line is. inl is) cause says

pub no_forms : (own : List (String Global)) (tool : Option (String Global)) (bytes : List ℕ) (why : InputError) (fault : Fault) → SaysRefused IsNoForms why
    → SaysWhy why fault → HasCause (IsNoValues own tool) bytes fault
no_forms own tool bytes why fault cause says = says_more why fault (λ line is. inr (inl is)) cause says

-- one of the values is refused, as a fault says
pub refused_so : (forms : Forms) (rows : List ℕ) (values : List Json) (why : InputError) (fault : Fault) → SaysRefused (IsRefused forms rows values) why → SaysWhy why fault
    → Says (IsRefused forms rows values) fault
refused_so forms rows values why fault cause says = says_more why fault (λ line is. is) cause says

pub one_refused : (own : List (String Global)) (tool : Option (String Global)) (bytes : List ℕ) (pieces : List Piece) (values : List Json) (forms : Forms)
    → HasValues own tool (behind_mark bytes) pieces values forms → (fault : Fault)
    → Says (IsRefused forms (rows_from (behind_mark bytes) 0 1 pieces) values) fault → HasCause (IsNoValues own tool) bytes fault
one_refused own tool bytes pieces values forms has (NoForm said) says =
    inr (inr (record { pieces = pieces; values = values; forms = forms; has = has; refused = says }))
one_refused own tool bytes pieces values forms has OutOfMemory says = tt

-- what follows from two facts about a value
pub both_ok : {X Y : Type 0} (r : Result X Y) (P Q R : X → Type 0) → ((x : X) → P x → Q x → R x) → IfOk r P → IfOk r Q → IfOk r R
both_ok (Ok x) P Q R more p q = more x p q
both_ok (Err e) P Q R more p q = tt

-- the same of a result that says so
pub all_refused : {X : Type 0} (result : Result X Fault) (there : Forms) (rows : List ℕ) (values : List Json) → IfErr result (Says (IsRefused there rows values))
    → (own : List (String Global)) (tool : Option (String Global)) (bytes : List ℕ) (pieces : List Piece) (forms : Forms)
    → there ≡ forms → rows ≡ rows_from (behind_mark bytes) 0 1 pieces → HasValues own tool (behind_mark bytes) pieces values forms
    → IfErr result (HasCause (IsNoValues own tool) bytes)
all_refused (Ok it) there rows values says own tool bytes pieces forms is same has = tt
all_refused (Err fault) there rows values says own tool bytes pieces forms is same has =
    one_refused own tool bytes pieces values forms has fault
    (subst (λ r. Says (IsRefused forms r values) fault) same (subst (λ f. Says (IsRefused f rows values) fault) is says))

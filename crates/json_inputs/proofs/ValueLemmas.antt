-- The values of an array that was read, and of one that wasn't.
use Rattle.std.proofs.Common.{◌≡◌, ℕ, List, [], ◌∷◌, Bool, true, false, Option, Some, None, Result, Ok, Err, IfOk, OnOk, option_and_then, refl, sym, ap, ◌∙◌}
use Rattle.std.specs.Str.{IsUtf8, is_utf8}
use Rattle.std.proofs.lemmas.Str.{is_utf8-from_IsUtf8, IsUtf8-from_is_utf8}
use Rattle.json.specs.Json.{Json, document}
use Rattle.json.specs.Value.{items_of}
use Rattle.json.specs.declared.error.Error.{Error}
use Rattle.json.specs.declared.error.Error.TheVariants.{Invalid}
use Rattle.json_inputs.specs.Values.{elements_in, elements_of, items_in, json_in}

pub items_listed : (values : List Json) → items_in (items_of values) ≡ values
items_listed [] = refl
items_listed (value ∷ values) = ap (λ rest. value ∷ rest) (items_listed values)

pub json_read : (bytes : List ℕ) (value : Json) → IsUtf8 bytes → document bytes ≡ Some value → elements_of bytes ≡ elements_in value
json_read bytes value utf8 is = ap (option_and_then elements_in) {y = Some value} (rw (is_utf8-from_IsUtf8 bytes utf8) is)

pub json_unread : (bytes : List ℕ) → (IsUtf8 bytes → document bytes ≡ None) → elements_of bytes ≡ None
json_unread bytes none = ap (option_and_then elements_in) {y = None} (go (is_utf8 bytes) refl)
  where
    go : (said : Bool) → is_utf8 bytes ≡ said → json_in bytes ≡ None
    go true is = rw is (none (IsUtf8-from_is_utf8 bytes is))
    go false is = rw is refl

-- an error that means so
pub unread_none : {A E : Type 0} (r : Result A E) (view : A → Option (List Json)) (e : Error) (json : List ℕ) → IfOk r (λ it. view it ≡ None) → OnOk r (e ≡ Invalid)
    → (e ≡ Invalid → IsUtf8 json → document json ≡ None) → IfOk r (λ it. view it ≡ elements_of json)
unread_none (Ok it) view e json none invalid unread = none ∙ sym (json_unread json (unread invalid))
unread_none (Err x) view e json none invalid unread = tt

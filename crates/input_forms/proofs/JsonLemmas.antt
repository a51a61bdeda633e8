-- What was read is the value of the input, and what can't be read is none.
use Rattle.std.proofs.Common.{◌≡◌, ℕ, Bool, true, false, List, Option, Some, None, option_map, refl}
use Rattle.std.specs.Option.{is_some}
use Rattle.std.specs.Str.{IsUtf8, is_utf8}
use Rattle.serde_json.specs.Data.{Data}
use Rattle.serde_json.specs.Read.{read}
use Rattle.documents.specs.Document.{json_in}
use Rattle.std.proofs.lemmas.Str.{is_utf8-from_IsUtf8, IsUtf8-from_is_utf8}

pub json_read : (bytes : List ℕ) (value : Data) → IsUtf8 bytes → read bytes ≡ Some value → json_in bytes ≡ Some value
json_read bytes value utf8 is = rw (is_utf8-from_IsUtf8 bytes utf8) is

pub json_unread : (bytes : List ℕ) → (IsUtf8 bytes → read bytes ≡ None) → json_in bytes ≡ None
json_unread bytes none = go (is_utf8 bytes) refl
  where
    go : (said : Bool) → is_utf8 bytes ≡ said → json_in bytes ≡ None
    go true is = rw is (none (IsUtf8-from_is_utf8 bytes is))
    go false is = rw is refl

pub some_mapped : {A B : Type 0} (f : A → B) (it : Option A) → is_some it ≡ is_some (option_map f it)
some_mapped f None = refl
some_mapped f (Some x) = refl

-- The kinds of a document's values, and its objects, which are tables of keys.
-- A kind says what a value means, and is none where the value is of another kind.
use Rattle.std.specs.Prelude.{ℕ, ◌^◌, ◌-◌, List, [], ◌∷◌, ◌&&◌, ◌||◌, ◌==◌, Bool, true, false, nat_le, nat_lt, if◌then◌else◌, length, Option, Some, None, option_map, option_and_then, unwrap_or, codes}
use Rattle.std.specs.List.{list_any, list_all}
use Rattle.std.specs.Option.{is_some, is_none}
use Rattle.std.specs.Str.{bytes_eq}
use Rattle.serde_json.specs.Data.{Data, Items, no_items, item, Members, no_members, member}
use Rattle.serde_json.specs.Find.{get, as_object, as_array, as_bool, as_str, as_number, as_u64}
use Rattle.source_location.specs.declared.SourceLocation.{SourceLocation}
use Rattle.oxc_protocol.specs.declared.protocol.Severity.{Severity}
use Rattle.oxc_protocol.specs.declared.protocol.Severity.TheVariants.{Advice, Warning, Error}

-- the value, where the test holds
abbrev pub only_if : {A : Type 0} → (A → Bool) → A → Option A
only_if test value = if test value then Some value else None

-- ---- single values

abbrev pub text : Data → Option (List ℕ)
text value = as_str value

-- a text that isn't empty
abbrev pub some_text : Data → Option (List ℕ)
some_text value = option_and_then (only_if (λ bytes. nat_lt 0 (length bytes))) (as_str value)

-- a text of fewer than `u32::MAX` bytes
abbrev pub source : Data → Option (List ℕ)
source value = option_and_then (only_if (λ bytes. nat_lt (length bytes) (2 ^ 32 - 1))) (as_str value)

abbrev pub truth : Data → Option Bool
truth value = as_bool value

-- a whole number, from the least to the most
abbrev pub whole : ℕ → ℕ → Data → Option ℕ
whole least most value = option_and_then (only_if (λ n. nat_le least n && nat_le n most)) (option_and_then as_u64 (as_number value))

abbrev pub severity_named : List ℕ → Option Severity
severity_named name =
    if bytes_eq name (codes "error") then Some Error
    else if bytes_eq name (codes "warning") then Some Warning
    else if bytes_eq name (codes "advice") then Some Advice
    else None

abbrev pub severity : Data → Option Severity
severity value = option_and_then severity_named (as_str value)

-- ---- arrays

-- each value of an array, all of one kind
abbrev pub all_of : {A : Type 0} → (Data → Option A) → Items → Option (List A)
all_of kind no_items = Some []
all_of kind (item value rest) = option_and_then (λ first. option_map (λ others. first ∷ others) (all_of kind rest)) (kind value)

abbrev pub array_of : {A : Type 0} → (Data → Option A) → Data → Option (List A)
array_of kind value = option_and_then (all_of kind) (as_array value)

abbrev pub pair_in : {A : Type 0} → (Data → Option A) → Items → Option (A × A)
pair_in kind no_items = None
pair_in kind (item first no_items) = None
pair_in kind (item first (item second no_items)) = option_and_then (λ x. option_map (λ y. (x, y)) (kind second)) (kind first)
pair_in kind (item first (item second (item third rest))) = None

-- an array of two values of one kind
abbrev pub pair_of : {A : Type 0} → (Data → Option A) → Data → Option (A × A)
pair_of kind value = option_and_then (pair_in kind) (as_array value)

-- a row and a column, both from 1
abbrev pub place : Data → Option SourceLocation
place value = option_map (λ pair. record { row = pair.0; column = pair.1 }) (pair_of (whole 1 (2 ^ 32 - 1)) value)

-- two numbers of bytes
abbrev pub bytes_pair : Data → Option (ℕ × ℕ)
bytes_pair value = pair_of (whole 0 (2 ^ 32 - 1)) value

-- ---- objects

-- a key that an object may have, and what it allows there: a value, or none
pub record Key : Type 0 where
  pub name : List ℕ
  pub allows : Option Data → Bool

-- a key that must be there, with a value of a kind
abbrev pub must : {A : Type 0} → List ℕ → (Data → Option A) → Key
must name kind = record { name = name; allows = λ found. is_some (option_and_then kind found) }

-- nothing is found, or a value of the kind
abbrev pub is_allowed : {A : Type 0} → (Data → Option A) → Option Data → Bool
is_allowed kind found = is_none found || is_some (option_and_then kind found)

-- a key that may be left out
abbrev pub may : {A : Type 0} → List ℕ → (Data → Option A) → Key
may name kind = record { name = name; allows = is_allowed kind }

-- each key of the members is one of the table's
abbrev pub only_keys : List Key → Members → Bool
only_keys keys no_members = true
only_keys keys (member name _ rest) = list_any (λ key. bytes_eq key.name name) keys && only_keys keys rest

-- an object that has what the table asks for, and no other key
abbrev pub has_keys : List Key → Data → Bool
has_keys keys it = list_all (λ key. key.allows (get key.name it)) keys && unwrap_or (option_map (only_keys keys) (as_object it)) false

-- an object by the table of its keys, and what it means
abbrev pub object_of : {A : Type 0} → List Key → A → Data → Option A
object_of keys meaning it = if has_keys keys it then Some meaning else None

-- what stands under a key, as a value of a kind
abbrev pub under : {A : Type 0} → List ℕ → (Data → Option A) → Data → Option A
under name kind it = option_and_then kind (get name it)

-- the members without those of a key
abbrev pub without : List ℕ → Members → Members
without key no_members = no_members
without key (member name value rest) = if bytes_eq key name then without key rest else member name value (without key rest)

-- A text without a key `files` has no value with one.
use Rattle.std.proofs.Common.{◌≡◌, ℕ, zero, suc, Bool, true, false, if◌then◌else◌, List, [], ◌∷◌, length, codes, Option, Some, None, option_map, option_and_then, refl, sym, ap, ◌∙◌}
use Rattle.std.specs.Prelude.{⊤}
use Rattle.std.specs.List.{list_any}
use Rattle.std.specs.Option.{is_some}
use Rattle.std.specs.Str.{IsUtf8, bytes_eq, is_utf8}
use Rattle.std.proofs.lemmas.Bool.{or_parts}
use Rattle.std.proofs.lemmas.Str.{is_utf8-from_IsUtf8, IsUtf8-from_is_utf8}
use Rattle.std.proofs.lemmas.Slice.Eq.{bytes_eq-Decides}
use Rattle.json.specs.Token.{Token}
use Rattle.json.specs.Lex.{tokens}
use Rattle.json.specs.Json as json
use Rattle.serde_json.specs.Data.{Data, Num, number, array, object, Items, Members, no_members, put}
use Rattle.serde_json.specs.Find.{get, get_member}
use Rattle.serde_json.specs.Read.{max_depth, number_of, of_items, of_json, of_members, read}
use Rattle.serde_json.proofs.Views.{get_member-put_other}
use Rattle.input_forms.specs.Object.{has_files}
use Rattle.input_forms.specs.Scanned.{is_files_key, names_files}

abbrev files : List ℕ
files = codes "files"

-- ---- no key among tokens is none among those that are left of them

abbrev Lacks : List Token → Type 0
Lacks ts = list_any is_files_key ts ≡ false

abbrev LeavesNone : {A : Type 0} → Option (A × List Token) → Type 0
LeavesNone None = ⊤
LeavesNone (Some p) = Lacks p.1

-- no key of an object is it
abbrev HasNone : json.Members → Type 0
HasNone json.no_members = ⊤
HasNone (json.member k j ms) = (bytes_eq k files ≡ false) × HasNone ms

abbrev HasNoneOnTop : json.Json → Type 0
HasNoneOnTop json.null = ⊤
HasNoneOnTop (json.boolean b) = ⊤
HasNoneOnTop (json.number s) = ⊤
HasNoneOnTop (json.string s) = ⊤
HasNoneOnTop (json.array js) = ⊤
HasNoneOnTop (json.object ms) = HasNone ms

abbrev MembersLack : Option (json.Members × List Token) → Type 0
MembersLack None = ⊤
MembersLack (Some p) = HasNone p.0 × Lacks p.1

abbrev ValueLacks : Option (json.Json × List Token) → Type 0
ValueLacks None = ⊤
ValueLacks (Some p) = HasNoneOnTop p.0 × Lacks p.1

mapped : {A B : Type 0} (f : A → B) (r : Option (A × List Token)) → LeavesNone r → LeavesNone (json.parse_map f r)
mapped f None none = tt
mapped f (Some p) none = none

of_value : (r : Option (json.Json × List Token)) → ValueLacks r → LeavesNone r
of_value None none = tt
of_value (Some p) none = none.1

and_then : {B : Type 0} (r : Option (json.Json × List Token)) (next : json.Json × List Token → Option (B × List Token)) → ValueLacks r
    → ((p : json.Json × List Token) → Lacks p.1 → LeavesNone (next p)) → LeavesNone (option_and_then next r)
and_then None next none rest = tt
and_then (Some p) next none rest = rest p none.1

-- ---- arrays

items_at_end : (value : json.Parse json.Json) (more : json.Parse json.Items) → ((ts : List Token) → Lacks ts → ValueLacks (value ts)) → ((ts : List Token) → Lacks ts → LeavesNone (more ts))
    → (ts : List Token) → Lacks ts → LeavesNone (json.items_step value more ts None)
items_at_end value more one rest ts none =
    and_then (value ts) (λ p. json.parse_map (json.item p.0) (more p.1)) (one ts none) (λ p left. mapped (json.item p.0) (more p.1) (rest p.1 left))

items_lack : (value : json.Parse json.Json) → ((ts : List Token) → Lacks ts → ValueLacks (value ts)) → (n : ℕ) (ts : List Token) → Lacks ts → LeavesNone (json.items value n ts)
unfolding json.items
items_lack value one zero ts none = tt
items_lack value one (suc n) [] none = items_at_end value (json.items value n) one (items_lack value one n) [] none
items_lack value one (suc n) (Token.begin_object ∷ ts) none = items_at_end value (json.items value n) one (items_lack value one n) (Token.begin_object ∷ ts) none
items_lack value one (suc n) (Token.end_object ∷ ts) none = items_at_end value (json.items value n) one (items_lack value one n) (Token.end_object ∷ ts) none
items_lack value one (suc n) (Token.begin_array ∷ ts) none = items_at_end value (json.items value n) one (items_lack value one n) (Token.begin_array ∷ ts) none
items_lack value one (suc n) (Token.end_array ∷ ts) none = none
items_lack value one (suc n) (Token.key s ∷ ts) none = items_at_end value (json.items value n) one (items_lack value one n) (Token.key s ∷ ts) none
items_lack value one (suc n) (Token.string s ∷ ts) none = items_at_end value (json.items value n) one (items_lack value one n) (Token.string s ∷ ts) none
items_lack value one (suc n) (Token.number s ∷ ts) none = items_at_end value (json.items value n) one (items_lack value one n) (Token.number s ∷ ts) none
items_lack value one (suc n) (Token.boolean b ∷ ts) none = items_at_end value (json.items value n) one (items_lack value one n) (Token.boolean b ∷ ts) none
items_lack value one (suc n) (Token.null ∷ ts) none = items_at_end value (json.items value n) one (items_lack value one n) (Token.null ∷ ts) none
items_lack value one (suc n) (Token.bad ∷ ts) none = items_at_end value (json.items value n) one (items_lack value one n) (Token.bad ∷ ts) none

-- ---- objects

member_lacks : (k : List ℕ) (j : json.Json) (r : Option (json.Members × List Token)) → bytes_eq k files ≡ false → MembersLack r → MembersLack (json.parse_map (json.member k j) r)
member_lacks k j None other none = tt
member_lacks k j (Some p) other none = ((other, none.0), none.1)

members_then : (k : List ℕ) (r : Option (json.Json × List Token)) (more : json.Parse json.Members) → bytes_eq k files ≡ false → ValueLacks r → ((ts : List Token) → Lacks ts → MembersLack (more ts))
    → MembersLack (option_and_then (λ p. json.parse_map (json.member k p.0) (more p.1)) r)
members_then k None more other none rest = tt
members_then k (Some p) more other none rest = member_lacks k p.0 (more p.1) other (rest p.1 none.1)

members_lack : (value : json.Parse json.Json) → ((ts : List Token) → Lacks ts → ValueLacks (value ts)) → (n : ℕ) (ts : List Token) → Lacks ts → MembersLack (json.members value n ts)
unfolding json.members
members_lack value one zero ts none = tt
members_lack value one (suc n) [] none = tt
members_lack value one (suc n) (Token.begin_object ∷ ts) none = tt
members_lack value one (suc n) (Token.end_object ∷ ts) none = (tt, none)
members_lack value one (suc n) (Token.begin_array ∷ ts) none = tt
members_lack value one (suc n) (Token.end_array ∷ ts) none = tt
members_lack value one (suc n) (Token.key s ∷ ts) none =
    let parts = or_parts (bytes_eq s files) (list_any is_files_key ts) none in
    members_then s (value ts) (json.members value n) parts.0 (one ts parts.1) (members_lack value one n)
members_lack value one (suc n) (Token.string s ∷ ts) none = tt
members_lack value one (suc n) (Token.number s ∷ ts) none = tt
members_lack value one (suc n) (Token.boolean b ∷ ts) none = tt
members_lack value one (suc n) (Token.null ∷ ts) none = tt
members_lack value one (suc n) (Token.bad ∷ ts) none = tt

-- ---- values

of_array : (r : Option (json.Items × List Token)) → LeavesNone r → ValueLacks (json.parse_map json.array r)
of_array None none = tt
of_array (Some p) none = (tt, none)

of_object : (r : Option (json.Members × List Token)) → MembersLack r → ValueLacks (json.parse_map json.object r)
of_object None none = tt
of_object (Some p) none = none

lacks_with : (items : json.Parse json.Items) (members : json.Parse json.Members) → ((ts : List Token) → Lacks ts → LeavesNone (items ts)) → ((ts : List Token) → Lacks ts → MembersLack (members ts))
    → (ts : List Token) → Lacks ts → ValueLacks (json.value_with items members ts)
lacks_with items members is ms [] none = tt
lacks_with items members is ms (Token.begin_object ∷ ts) none = of_object (members ts) (ms ts none)
lacks_with items members is ms (Token.end_object ∷ ts) none = tt
lacks_with items members is ms (Token.begin_array ∷ ts) none = of_array (items ts) (is ts none)
lacks_with items members is ms (Token.end_array ∷ ts) none = tt
lacks_with items members is ms (Token.key s ∷ ts) none = tt
lacks_with items members is ms (Token.string s ∷ ts) none = (tt, none)
lacks_with items members is ms (Token.number s ∷ ts) none = (tt, none)
lacks_with items members is ms (Token.boolean b ∷ ts) none = (tt, none)
lacks_with items members is ms (Token.null ∷ ts) none = (tt, none)
lacks_with items members is ms (Token.bad ∷ ts) none = tt

value_lacks : (depth : ℕ) (ts : List Token) → Lacks ts → ValueLacks (json.value depth ts)
unfolding json.value
value_lacks zero ts none = lacks_with (λ ts. None) (λ ts. None) (λ ts none. tt) (λ ts none. tt) ts none
value_lacks (suc depth) ts none =
    lacks_with (λ ts. json.items (json.value depth) (length ts) ts) (λ ts. json.members (json.value depth) (length ts) ts)
    (λ ts none. items_lack (json.value depth) (value_lacks depth) (length ts) ts none)
    (λ ts none. members_lack (json.value depth) (value_lacks depth) (length ts) ts none) ts none

-- ---- and what is made of them has none

unequal : (k : List ℕ) → bytes_eq k files ≡ false → files ≡ k → ⊥
unequal k other same = let no : true ≡ false = sym ((bytes_eq-Decides k files).1 (sym same)) ∙ other in cc

put_then : (k : List ℕ) (j : Option Data) (ms : json.Members) (found : Members) → ((d : Data) → option_and_then (get files) (option_map object (of_members ms (put k d found))) ≡ None)
    → option_and_then (get files) (option_map object (option_and_then (λ d. of_members ms (put k d found)) j)) ≡ None
put_then k None ms found rest = refl
put_then k (Some d) ms found rest = rest d

members_found : (ms : json.Members) (found : Members) → HasNone ms → get_member files found ≡ None → option_and_then (get files) (option_map object (of_members ms found)) ≡ None
members_found json.no_members found none is = is
members_found (json.member k j ms) found none is =
    put_then k (of_json j) ms found (λ d. members_found ms (put k d found) none.1 (get_member-put_other files k d found (unequal k none.0) ∙ is))

no_number : (it : Option Num) → option_and_then (get files) (option_map number it) ≡ None
no_number None = refl
no_number (Some n) = refl

no_array : (it : Option Items) → option_and_then (get files) (option_map array it) ≡ None
no_array None = refl
no_array (Some items) = refl

json_found : (j : json.Json) → HasNoneOnTop j → option_and_then (get files) (of_json j) ≡ None
json_found json.null none = refl
json_found (json.boolean b) none = refl
json_found (json.number s) none = no_number (number_of s)
json_found (json.string s) none = refl
json_found (json.array js) none = no_array (of_items js)
json_found (json.object ms) none = members_found ms no_members none refl

value_found : (r : Option (json.Json × List Token)) → ValueLacks r
    → option_and_then (get files) (option_and_then of_json (option_and_then (λ p. json.if_last p.0 p.1) r)) ≡ None
value_found None none = refl
value_found (Some p) none = last p.0 p.1 none.0
  where
    last : (j : json.Json) (ts : List Token) → HasNoneOnTop j → option_and_then (get files) (option_and_then of_json (json.if_last j ts)) ≡ None
    last j [] none = json_found j none
    last j (t ∷ ts) none = refl

pub none_unnamed : (text : List ℕ) → names_files text ≡ false → false ≡ has_files text
unfolding names_files has_files
none_unnamed text = go (is_utf8 text)
  where
    go : (utf8 : Bool) → (if utf8 then list_any is_files_key (tokens text) else false) ≡ false
        → false ≡ is_some (option_and_then (get files) (if utf8 then read text else None))
    go true none = sym (ap is_some (value_found (json.value max_depth (tokens text)) (value_lacks max_depth (tokens text) none)))
    go false none = refl

pub named_so : (text : List ℕ) → IsUtf8 text → list_any is_files_key (tokens text) ≡ names_files text
unfolding names_files
named_so text utf8 = rw (is_utf8-from_IsUtf8 text utf8) refl

pub unnamed : (text : List ℕ) → ¬ IsUtf8 text → false ≡ names_files text
unfolding names_files
unnamed text bad = go (is_utf8 text) refl
  where
    go : (utf8 : Bool) → is_utf8 text ≡ utf8 → false ≡ (if utf8 then list_any is_files_key (tokens text) else false)
    go true is = absurd (bad (IsUtf8-from_is_utf8 text is))
    go false is = refl

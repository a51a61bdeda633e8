-- Keys of the tables.
use Rattle.std.proofs.Common.{◌≡◌, ℕ, List, [], ◌∷◌, map, find, option_map, unwrap_or, Bool, true, false, refl, ap, ◌∙◌, sym}
use Rattle.std.specs.Str.{bytes_eq}
use Rattle.std.specs.Borrow.{Bor}
use Rattle.std.specs.List.{list_any}
use Rattle.sarif_log.specs.Form as Form
use Rattle.sarif_log.specs.Form.{key_view, kind_in}
use Rattle.sarif_log.specs.declared.form.Key.{Key}
use Rattle.sarif_log.specs.declared.form.Kind.TheVariants.{Any}

found_map : (keys : List Key) (name : List ℕ) → kind_in (map key_view keys) name ≡ unwrap_or (option_map (λ key. key.kind) (find (λ key. bytes_eq key.name.now name) keys)) Any
found_map [] name = refl
found_map (key ∷ keys) name = step key keys name (bytes_eq key.name.now name) refl (found_map keys name)
  where
    step : (key : Key) (keys : List Key) (name : List ℕ) (same : Bool) → bytes_eq key.name.now name ≡ same
        → kind_in (map key_view keys) name ≡ unwrap_or (option_map (λ key. key.kind) (find (λ key. bytes_eq key.name.now name) keys)) Any
        → kind_in (map key_view (key ∷ keys)) name ≡ unwrap_or (option_map (λ key. key.kind) (find (λ key. bytes_eq key.name.now name) (key ∷ keys))) Any
    step key keys name true is rest = rw is refl
    step key keys name false is rest = rw is rest

pub found_there : (keys : List Key) (table : List Form.Key) (name : List ℕ) → map key_view keys ≡ table → unwrap_or (option_map (λ key. key.kind) (find (λ key. bytes_eq key.name.now name) keys)) Any ≡ kind_in table name
found_there keys table name is = sym (found_map keys name) ∙ ap (λ t. kind_in t name) is

any_map : (words : List (Bor (List ℕ))) (text : List ℕ) → list_any (λ word. bytes_eq word.now text) words ≡ list_any (λ word. bytes_eq word text) (map (λ word. word.now) words)
any_map [] text = refl
any_map (word ∷ words) text = rw (any_map words text) refl

pub one_of : (words : List (Bor (List ℕ))) (table : List (List ℕ)) (text : List ℕ) → map (λ word. word.now) words ≡ table → list_any (λ word. bytes_eq word.now text) words ≡ list_any (λ word. bytes_eq word text) table
one_of words table text is = any_map words text ∙ ap (λ t. list_any (λ word. bytes_eq word text) t) is

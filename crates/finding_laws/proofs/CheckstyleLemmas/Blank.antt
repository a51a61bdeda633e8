-- The value of an element with one attribute, whose own text is blank.
use Rattle.std.proofs.Common.{◌≡◌, ◌∙◌, ℕ, suc, if◌then◌else◌, drop, List, [], ◌∷◌, ◌++◌, map, take, ap, ap₂, refl}
use Rattle.std.specs.List.{list_all}
use Rattle.std.proofs.lemmas.Bool.{and_parts}
use Rattle.json.specs.Json.{Json, array, object, string, member}
use Rattle.json.specs.Value.{items_of}
use Rattle.xml_values.specs.Marks.{is_blank, past_blanks}
use Rattle.xml_values.specs.Element.{children_named, element_json, listed, own_attributes, own_text, solid_end, trimmed}
use Rattle.finding_laws.specs.Checkstyle.Value.{some_under}
use Rattle.finding_laws.proofs.CheckstyleLemmas.Children.{all_blank, names_for, parts_of}
use Rattle.finding_laws.proofs.CheckstyleLemmas.Run.{run_by, run_len_zero}

blanks_by : (text : List ℕ) → past_blanks text ≡ drop (run_by is_blank text) text
blanks_by text = rw run_len_zero refl

nothing_left : (text : List ℕ) → all_blank text → drop (run_by is_blank text) text ≡ []
nothing_left [] all = refl
nothing_left (x ∷ xs) all =
    let parts = and_parts (is_blank x) (list_all is_blank xs) all in
    ap (λ b. drop (if b then suc (run_by is_blank xs) else 0) (x ∷ xs)) parts.0 ∙ nothing_left xs parts.1

pub blank_trimmed : (text : List ℕ) → all_blank text → trimmed text ≡ []
blank_trimmed text all = ap (λ l. take (solid_end 0 0 l) l) (blanks_by text ∙ nothing_left text all)

-- the name of children, and the key of an attribute that isn't it
pub record AreApart (name key : List ℕ) : Type 0 where
  pub keeps : (value : Json) (children : List (List ℕ × Json)) → children_named name ((name, value) ∷ children) ≡ value ∷ children_named name children
  pub only : (text : List ℕ) → own_attributes (name ∷ []) ((key, text) ∷ []) ≡ (key, string text) ∷ []

all_named : {X : Type 0} (name key : List ℕ) (value : X → Json) → AreApart name key → (xs : List X) → children_named name (map (λ x. (name, value x)) xs) ≡ map value xs
all_named name key value are [] = refl
all_named name key value are (x ∷ xs) = are.keeps (value x) (map (λ y. (name, value y)) xs) ∙ ap (λ l. value x ∷ l) (all_named name key value are xs)

value_by : List ℕ → List (List ℕ × Json) → List Json → List ℕ → Json
value_by name attributes values text = object (listed (attributes ++ (name, array (items_of values)) ∷ [] ++ own_text text))

pub children_value : {X : Type 0} (name key text : List ℕ) (value : X → Json) → AreApart name key → (xs : List X) (own : List ℕ) → all_blank own
    → element_json (parts_of ((key, text) ∷ []) (names_for name xs) (map (λ x. (name, value x)) xs) own) ≡ object (member key (string text) (some_under name (map value xs)))
unfolding value_by
children_value name key text value are [] own blank = ap (λ t. object (member key (string text) (listed (own_text t)))) (blank_trimmed own blank)
children_value name key text value are (x ∷ xs) own blank =
    ap₂ (λ attributes values. value_by name attributes values (trimmed own)) (are.only text) (all_named name key value are (x ∷ xs))
    ∙ ap (value_by name ((key, string text) ∷ []) (value x ∷ map value xs)) (blank_trimmed own blank)

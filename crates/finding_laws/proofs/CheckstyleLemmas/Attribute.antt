-- Attributes that are written are read.
use Rattle.std.proofs.Common.{◌≡◌, ◌∙◌, ℕ, suc, ◌≤◌, ◌==◌, not, if◌then◌else◌, List, [], ◌∷◌, ◌++◌, length, take, drop, Bool, true, Option, Some, None, option_and_then, option_map, ap, ap₂, arith, codes, refl, sym, append_assoc}
use Rattle.std.proofs.lemmas.List.{drop_at, length-append, take_at}
use Rattle.xml_values.specs.Marks.{named}
use Rattle.xml_values.specs.Tag.{added, assigned, attribute, attributes, closed, may_add, with_text, Attribute}
use Rattle.xml_values.specs.Text.{text_after}
use Rattle.finding_laws.proofs.CheckstyleLemmas.Run.{has_not, run_by, run_len_zero, run_until}

-- an attribute as it is written, and what stands after it
abbrev pub attribute_then : List ℕ → List ℕ → List ℕ → List ℕ
attribute_then key value rest = 0x20 ∷ (key ++ 0x3D ∷ 0x22 ∷ (value ++ 0x22 ∷ rest))

pub spelled_out : (key value rest : List ℕ) → (codes " " ++ key ++ codes "=\"" ++ value ++ codes "\"") ++ rest ≡ attribute_then key value rest
spelled_out key value rest =
    append_assoc (codes " " ++ key ++ codes "=\"" ++ value) (codes "\"") rest
    ∙ (append_assoc (codes " " ++ key ++ codes "=\"") value (0x22 ∷ rest) ∙ append_assoc (codes " " ++ key) (codes "=\"") (value ++ 0x22 ∷ rest))

pub attribute_longer : (key value rest : List ℕ) → length rest ≤ length (attribute_then key value rest)
attribute_longer key value rest = omega (arith, length-append key (0x3D ∷ 0x22 ∷ (value ++ 0x22 ∷ rest)), length-append value (0x22 ∷ rest))

-- a key is a name, so behind a blank it is read as one
pub record IsKey (key : List ℕ) : Type 0 where
  pub names : (rest : List ℕ) → named (key ++ 0x3D ∷ rest) ≡ Some (key, 0x3D ∷ rest)
  pub turns : (n : ℕ) (earlier : List Attribute) (rest : List ℕ) → attributes (suc n) earlier (0x20 ∷ (key ++ 0x3D ∷ rest)) ≡ added (attributes n) earlier (attribute (key ++ 0x3D ∷ rest))

-- a text in quotes is read as this one
pub record IsValue (value text : List ℕ) : Type 0 where
  pub no_quote : has_not 0x22 value
  pub no_tag : has_not 0x3C value
  pub back : text_after true [] value ≡ Some text

closed_if : List ℕ → List ℕ → Bool → Option (List ℕ × List ℕ)
closed_if text rest has = if has then None else Some (text, rest)

closed_at : (value rest : List ℕ) (n : ℕ) → n ≡ length value → has_not 0x3C value → closed (take n (value ++ 0x22 ∷ rest)) (drop n (value ++ 0x22 ∷ rest)) ≡ Some (value, rest)
unfolding closed_if
closed_at value rest n is no_tag = ap₂ closed (take_at value (0x22 ∷ rest) n (sym is)) (drop_at value (0x22 ∷ rest) n (sym is)) ∙ ap (closed_if value rest) no_tag

assigned_back : (value text rest : List ℕ) → IsValue value text → assigned (0x3D ∷ 0x22 ∷ (value ++ 0x22 ∷ rest)) ≡ Some (value, rest)
assigned_back value text rest is = rw run_len_zero (closed_at value rest (run_by (λ byte. not (byte == 0x22)) (value ++ 0x22 ∷ rest)) (run_until 0x22 value rest is.no_quote) is.no_tag)

pub attribute_back : (key value text rest : List ℕ) → IsKey key → IsValue value text → attribute (key ++ 0x3D ∷ 0x22 ∷ (value ++ 0x22 ∷ rest)) ≡ Some ((key, text), rest)
attribute_back key value text rest is_key is =
    ap (option_and_then (λ it. option_and_then (with_text it.0) (assigned it.1))) (is_key.names (0x22 ∷ (value ++ 0x22 ∷ rest)))
    ∙ (ap (option_and_then (with_text key)) (assigned_back value text rest is) ∙ ap (option_map (λ t. ((key, t), rest))) is.back)

added_if : ℕ → List Attribute → Attribute → List ℕ → Bool → Option (List Attribute × List ℕ)
added_if n earlier it rest may = if may then attributes n (earlier ++ it ∷ []) rest else None

pub attributes_on : (n : ℕ) (earlier : List Attribute) (key value text rest : List ℕ) → IsKey key → IsValue value text → may_add earlier (key, text) ≡ true
    → attributes (suc n) earlier (attribute_then key value rest) ≡ attributes n (earlier ++ (key, text) ∷ []) rest
unfolding added_if
attributes_on n earlier key value text rest is_key is may =
    is_key.turns n earlier (0x22 ∷ (value ++ 0x22 ∷ rest)) ∙ (ap (added (attributes n) earlier) (attribute_back key value text rest is_key is) ∙ ap (added_if n earlier (key, text) rest) may)

pub attributes_slash : (n : ℕ) (earlier : List Attribute) (rest : List ℕ) → attributes (suc n) earlier (0x2F ∷ rest) ≡ Some (earlier, 0x2F ∷ rest)
unfolding attributes
attributes_slash n earlier rest = refl

pub attributes_closed : (n : ℕ) (earlier : List Attribute) (rest : List ℕ) → attributes (suc n) earlier (0x3E ∷ rest) ≡ Some (earlier, 0x3E ∷ rest)
unfolding attributes
attributes_closed n earlier rest = refl

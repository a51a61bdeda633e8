-- The children of an element, each on a row of its own.
use Rattle.std.proofs.Common.{◌≡◌, ◌∙◌, ℕ, zero, suc, ◌<◌, ◌≤◌, ◌||◌, nat_lt, if◌then◌else◌, List, [], ◌∷◌, ◌++◌, length, map, true, false, Some, ap, arith, refl, sym, append_assoc, append-nil}
use Rattle.std.specs.List.{list_all}
use Rattle.std.specs.Str.{bytes_eq}
use Rattle.json.specs.Json.{Json}
use Rattle.xml_values.specs.Marks.{is_blank}
use Rattle.xml_values.specs.Tag.{Attribute, max_names}
use Rattle.xml_values.specs.Element.{content, content_next, content_step, passed, section, may_hold, with_name, Parts, Reading, said, with_child}
use Rattle.xml_values.specs.Text.{read_after}
use Rattle.finding_laws.proofs.SharedLemmas.{all_append}

abbrev pub parts_of : List Attribute → List (List ℕ) → List (List ℕ × Json) → List ℕ → Parts
parts_of attributes names children text = record { attributes = attributes; names = names; children = children; text = text }

-- the rows of elements, each given by what stands behind its `<`, and what stands behind them
abbrev pub rows_then : {X : Type 0} → (X → List ℕ → List ℕ) → List X → List ℕ → List ℕ
rows_then behind [] end = end
rows_then behind (x ∷ xs) end = 0x3C ∷ behind x (0x0A ∷ rows_then behind xs end)

-- how each is read
pub record AreChildren {X : Type 0} (el : Reading) (name : List ℕ) (behind : X → List ℕ → List ℕ) (value : X → Json) : Type 0 where
  pub step : (x : X) (parts : Parts) (rest : List ℕ) → may_hold parts name ≡ true → content_step el parts (0x3C ∷ behind x rest) ≡ Some (false, with_child parts (name, value x), rest)
  pub longer : (x : X) (rest : List ℕ) → length rest ≤ length (behind x rest)

abbrev pub all_blank : List ℕ → Type 0
all_blank text = list_all is_blank text ≡ true

-- names of children: this one, if there are any
abbrev pub names_for : {X : Type 0} → List ℕ → List X → List (List ℕ)
names_for name [] = []
names_for name (x ∷ xs) = name ∷ []

one_more : (text : List ℕ) → all_blank text → all_blank (text ++ 0x0A ∷ [])
one_more text all = all_append is_blank text (0x0A ∷ []) all refl

break_step : (el : Reading) (parts : Parts) (rest : List ℕ) → content_step el parts (0x0A ∷ 0x3C ∷ rest) ≡ Some (false, said parts (parts.text ++ 0x0A ∷ []), 0x3C ∷ rest)
unfolding content_step passed section read_after
break_step el parts rest = refl

end_turn : (el : Reading) (n : ℕ) (parts : Parts) (rest : List ℕ) → content el (suc n) parts (0x3C ∷ 0x2F ∷ rest) ≡ Some (parts, rest)
unfolding content content_step passed section
end_turn el n parts rest = refl

break_turn : (el : Reading) (n : ℕ) (parts : Parts) (rest : List ℕ) → content el (suc n) parts (0x0A ∷ 0x3C ∷ rest) ≡ content el n (said parts (parts.text ++ 0x0A ∷ [])) (0x3C ∷ rest)
unfolding content
break_turn el n parts rest = ap (content_next (content el n)) (break_step el parts rest)

child_turn : {X : Type 0} (el : Reading) (name : List ℕ) (behind : X → List ℕ → List ℕ) (value : X → Json) → AreChildren el name behind value
    → (n : ℕ) (x : X) (parts : Parts) (rest : List ℕ) → may_hold parts name ≡ true → content el (suc n) parts (0x3C ∷ behind x rest) ≡ content el n (with_child parts (name, value x)) rest
unfolding content
child_turn el name behind value are n x parts rest may = ap (content_next (content el n)) (are.step x parts rest may)

-- ---- all of them

-- a name that is there is no further one
may_with : (attributes : List Attribute) (name : List ℕ) (children : List (List ℕ × Json)) (text : List ℕ) → bytes_eq name name ≡ true → may_hold (parts_of attributes (name ∷ []) children text) name ≡ true
may_with attributes name children text same = ap (λ b. (b || false) || nat_lt 1 max_names) same

known : (name : List ℕ) → bytes_eq name name ≡ true → with_name name (name ∷ []) ≡ name ∷ []
known name same = ap (λ b. if b || false then name ∷ [] else name ∷ name ∷ []) same

back_rest : {X : Type 0} (el : Reading) (name : List ℕ) (behind : X → List ℕ → List ℕ) (value : X → Json) → AreChildren el name behind value → bytes_eq name name ≡ true
    → (xs : List X) (n : ℕ) (attributes : List Attribute) (children : List (List ℕ × Json)) (text end : List ℕ) → all_blank text → length (0x0A ∷ rows_then behind xs (0x3C ∷ 0x2F ∷ end)) < n
    → (own : List ℕ) × (all_blank own) × (content el n (parts_of attributes (name ∷ []) children text) (0x0A ∷ rows_then behind xs (0x3C ∷ 0x2F ∷ end))
    ≡ Some (parts_of attributes (name ∷ []) (children ++ map (λ x. (name, value x)) xs) own, end))
back_rest el name behind value are same [] zero attributes children text end blank h = absurd (omega arith)
back_rest el name behind value are same [] (suc zero) attributes children text end blank h = absurd (omega arith)
back_rest el name behind value are same [] (suc (suc n)) attributes children text end blank h = (
  text ++ 0x0A ∷ [],
  one_more text blank,
  break_turn el (suc n) (parts_of attributes (name ∷ []) children text) (0x2F ∷ end)
      ∙ (end_turn el n (parts_of attributes (name ∷ []) children (text ++ 0x0A ∷ [])) end ∙ ap (λ c. Some (parts_of attributes (name ∷ []) c (text ++ 0x0A ∷ []), end)) (sym (append-nil children))),
)
back_rest el name behind value are same (x ∷ xs) zero attributes children text end blank h = absurd (omega arith)
back_rest el name behind value are same (x ∷ xs) (suc zero) attributes children text end blank h = absurd (omega arith)
back_rest el name behind value are same (x ∷ xs) (suc (suc n)) attributes children text end blank h =
    let rest : List ℕ = 0x0A ∷ rows_then behind xs (0x3C ∷ 0x2F ∷ end) in
    let more = back_rest el name behind value are same xs n attributes (children ++ (name, value x) ∷ []) (text ++ 0x0A ∷ []) end (one_more text blank) (omega (arith, h, are.longer x rest)) in (
      more.0,
      more.1,
      break_turn el (suc n) (parts_of attributes (name ∷ []) children text) (behind x rest)
          ∙ (child_turn el name behind value are n x (parts_of attributes (name ∷ []) children (text ++ 0x0A ∷ [])) rest (may_with attributes name children (text ++ 0x0A ∷ []) same)
          ∙ (ap (λ names. content el n (parts_of attributes names (children ++ (name, value x) ∷ []) (text ++ 0x0A ∷ [])) rest) (known name same)
          ∙ (more.2 ∙ ap (λ c. Some (parts_of attributes (name ∷ []) c more.0, end)) (append_assoc children ((name, value x) ∷ []) (map (λ y. (name, value y)) xs))))),
    )

-- the content of an element whose children are these rows
pub rows_back : {X : Type 0} (el : Reading) (name : List ℕ) (behind : X → List ℕ → List ℕ) (value : X → Json) → AreChildren el name behind value → bytes_eq name name ≡ true
    → (xs : List X) (n : ℕ) (attributes : List Attribute) (end : List ℕ) → length (0x0A ∷ rows_then behind xs (0x3C ∷ 0x2F ∷ end)) < n
    → (own : List ℕ) × (all_blank own) × (content el n (parts_of attributes [] [] []) (0x0A ∷ rows_then behind xs (0x3C ∷ 0x2F ∷ end)) ≡ Some (parts_of attributes (names_for name xs) (map (λ x. (name, value x)) xs) own, end))
rows_back el name behind value are same [] zero attributes end h = absurd (omega arith)
rows_back el name behind value are same [] (suc zero) attributes end h = absurd (omega arith)
rows_back el name behind value are same [] (suc (suc n)) attributes end h =
    (0x0A ∷ [], refl, break_turn el (suc n) (parts_of attributes [] [] []) (0x2F ∷ end) ∙ end_turn el n (parts_of attributes [] [] (0x0A ∷ [])) end)
rows_back el name behind value are same (x ∷ xs) zero attributes end h = absurd (omega arith)
rows_back el name behind value are same (x ∷ xs) (suc zero) attributes end h = absurd (omega arith)
rows_back el name behind value are same (x ∷ xs) (suc (suc n)) attributes end h =
    let rest : List ℕ = 0x0A ∷ rows_then behind xs (0x3C ∷ 0x2F ∷ end) in
    let more = back_rest el name behind value are same xs n attributes ((name, value x) ∷ []) (0x0A ∷ []) end refl (omega (arith, h, are.longer x rest)) in (
      more.0,
      more.1,
      break_turn el (suc n) (parts_of attributes [] [] []) (behind x rest)
          ∙ (child_turn el name behind value are n x (parts_of attributes [] [] (0x0A ∷ [])) rest refl ∙ more.2),
    )

-- Start tags: a name and its attributes.
use Rattle.std.specs.Prelude.{ℕ, zero, suc, ◌+◌, ◌==◌, ◌||◌, nat_eq, nat_lt, List, [], ◌∷◌, ◌++◌, length, map, codes, Bool, true, false, not, if◌then◌else◌, Option, Some, None, option_map, option_and_then}
use Rattle.std.specs.List.{list_any}
use Rattle.std.specs.Str.{bytes_eq}
use Rattle.xml_values.specs.declared.marks.Class.TheVariants.{Blank, Until}
use Rattle.xml_values.specs.Marks.{run, past, past_blanks, after, begins_name, named}
use Rattle.xml_values.specs.Text.{text_after}

-- a name and a text
abbrev pub Attribute : Type 0
Attribute = List ℕ × List ℕ

-- the most names of attributes, and of elements, in an element
abbrev pub max_names : ℕ
max_names = 64

abbrev pub is_among : List ℕ → List (List ℕ) → Bool
is_among name names = list_any (bytes_eq name) names

abbrev pub names_of : List Attribute → List (List ℕ)
names_of attributes = map (λ it. it.0) attributes

-- what stands before the byte that closes a text, without `<`, and after it
abbrev pub closed : List ℕ → List ℕ → Option (List ℕ × List ℕ)
closed text [] = None
closed text (quote ∷ rest) = if list_any (λ byte. byte == 0x3C) text then None else Some (text, rest)

-- what stands between quotes, and after them
abbrev pub quoted : List ℕ → Option (List ℕ × List ℕ)
quoted [] = None
quoted (quote ∷ rest) = if quote == 0x22 || quote == 0x27 then closed (run (Until quote) rest) (past (Until quote) rest) else None

-- what stands between quotes after `=`, and after them
abbrev pub assigned : List ℕ → Option (List ℕ × List ℕ)
assigned rest = option_and_then (λ it. quoted (past_blanks it)) (after (codes "=") (past_blanks rest))

abbrev pub with_text : List ℕ → List ℕ × List ℕ → Option (Attribute × List ℕ)
with_text name it = option_map (λ text. ((name, text), it.1)) (text_after true [] it.0)

-- an attribute, and what stands after it
abbrev pub attribute : List ℕ → Option (Attribute × List ℕ)
attribute rest = option_and_then (λ it. option_and_then (with_text it.0) (assigned it.1)) (named rest)

abbrev pub may_add : List Attribute → Attribute → Bool
may_add attributes it = if nat_lt (length attributes) max_names then not (is_among it.0 (names_of attributes)) else false

abbrev pub added : (List Attribute → List ℕ → Option (List Attribute × List ℕ)) → List Attribute → Option (Attribute × List ℕ) → Option (List Attribute × List ℕ)
added more attributes None = None
added more attributes (Some it) = if may_add attributes it.0 then more (attributes ++ it.0 ∷ []) it.1 else None

abbrev pub is_empty : List ℕ → Bool
is_empty bytes = length bytes == 0

-- attributes after others, each after blanks, and what stands after them. The number bounds the turns; one more than the bytes is always enough
unfoldable pub attributes : ℕ → List Attribute → List ℕ → Option (List Attribute × List ℕ)
attributes zero earlier rest = None
attributes (suc n) earlier rest =
    if begins_name (past_blanks rest) then
    if is_empty (run Blank rest) then None else added (attributes n) earlier (attribute (past_blanks rest))
    else Some (earlier, past_blanks rest)

abbrev pub attributes_of : List ℕ → Option (List Attribute × List ℕ)
attributes_of rest = attributes (length rest + 1) [] rest

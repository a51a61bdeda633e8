-- Elements: their content, and the values that they are.
use Rattle.std.specs.Prelude.{ℕ, zero, suc, ◌+◌, ◌-◌, ◌==◌, ◌||◌, nat_lt, List, [], ◌∷◌, ◌++◌, length, map, filter, take, codes, Bool, true, false, not, if◌then◌else◌, Option, Some, None, is_some, option_map, option_and_then}
use Rattle.std.specs.Str.{bytes_eq}
use Rattle.json.specs.Json.{Json, string, array, object, Members, no_members, member}
use Rattle.json.specs.Value.{items_of}
use Rattle.xml_values.specs.declared.marks.Class.TheVariants.{Until}
use Rattle.xml_values.specs.Marks.{is_blank, run, past, past_blanks, after, parted, named}
use Rattle.xml_values.specs.Text.{text_after}
use Rattle.xml_values.specs.Tag.{Attribute, attributes_of, is_among, max_names}

-- what an element has: its attributes, the names of its children, each once in order, its children, and its own text
pub record Parts : Type 0 where
  pub attributes : List Attribute
  pub names : List (List ℕ)
  pub children : List (List ℕ × Json)
  pub text : List ℕ

-- ---- its value

abbrev pub listed : List (List ℕ × Json) → Members
listed [] = no_members
listed (it ∷ rest) = member it.0 it.1 (listed rest)

abbrev pub children_named : List ℕ → List (List ℕ × Json) → List Json
children_named name children = map (λ it. it.1) (filter (λ it. bytes_eq name it.0) children)

abbrev pub array_named : List (List ℕ × Json) → List ℕ → List ℕ × Json
array_named children name = (name, array (items_of (children_named name children)))

abbrev pub as_text : Attribute → List ℕ × Json
as_text it = (it.0, string it.1)

-- attributes whose name no child has
abbrev pub own_attributes : List (List ℕ) → List Attribute → List (List ℕ × Json)
own_attributes names attributes = map as_text (filter (λ it. not (is_among it.0 names)) attributes)

-- the index after the last byte that isn't blank, in bytes that start at an index
abbrev pub solid_end : ℕ → ℕ → List ℕ → ℕ
solid_end end at [] = end
solid_end end at (byte ∷ bytes) = solid_end (if is_blank byte then end else at + 1) (at + 1) bytes

-- a text without the blanks at both ends
abbrev pub trimmed : List ℕ → List ℕ
trimmed text = take (solid_end 0 0 (past_blanks text)) (past_blanks text)

abbrev pub own_text : List ℕ → List (List ℕ × Json)
own_text [] = []
own_text (byte ∷ bytes) = (codes "#text", string (byte ∷ bytes)) ∷ []

abbrev pub members_of_parts : Parts → List (List ℕ × Json)
members_of_parts it = own_attributes it.names it.attributes ++ map (array_named it.children) it.names ++ own_text (trimmed it.text)

-- an object: texts by the names of attributes, arrays by the names of children, `#text`
abbrev pub element_json : Parts → Json
element_json it = object (listed (members_of_parts it))

-- an object with the one element
abbrev pub rooted : List ℕ × Json → Json
rooted it = object (member it.0 it.1 no_members)

-- ---- its content

abbrev pub Reading : Type 0
Reading = List ℕ → Option ((List ℕ × Json) × List ℕ)

-- what stands after an instruction
abbrev pub past_instruction : List ℕ → Option (List ℕ)
past_instruction rest = option_map (λ it. it.1) (option_and_then (parted (codes "?>")) (after (codes "<?") rest))

-- what stands after a comment, in which `--` stands only at its end
abbrev pub past_comment : List ℕ → Option (List ℕ)
past_comment rest = option_and_then (λ it. after (codes ">") it.1) (option_and_then (parted (codes "--")) (after (codes "<!--") rest))

abbrev pub or_comment : List ℕ → Option (List ℕ) → Option (List ℕ)
or_comment rest None = past_comment rest
or_comment rest (Some it) = Some it

-- what stands after an instruction or a comment
unfoldable pub passed : List ℕ → Option (List ℕ)
passed rest = or_comment rest (past_instruction rest)

-- the text of a CDATA section, and what stands after it
unfoldable pub section : List ℕ → Option (List ℕ × List ℕ)
section rest = option_and_then (parted (codes "]]>")) (after (codes "<![CDATA[") rest)

abbrev pub said : Parts → List ℕ → Parts
said parts text = record parts { text = text }

abbrev pub with_name : List ℕ → List (List ℕ) → List (List ℕ)
with_name name names = if is_among name names then names else names ++ name ∷ []

abbrev pub with_child : Parts → List ℕ × Json → Parts
with_child parts it = record parts { names = with_name it.0 parts.names; children = parts.children ++ it ∷ [] }

abbrev pub may_hold : Parts → List ℕ → Bool
may_hold parts name = is_among name parts.names || nat_lt (length parts.names) max_names

-- what is read of a content: whether its end tag begins, what the element has then, and what stands after it
abbrev pub Step : Type 0
Step = Option (Bool × Parts × List ℕ)

abbrev pub child_step : Parts → Option ((List ℕ × Json) × List ℕ) → Step
child_step parts None = None
child_step parts (Some it) = if may_hold parts it.0.0 then Some (false, with_child parts it.0, it.1) else None

abbrev pub text_step : Parts → List ℕ → List ℕ → Step
text_step parts [] rest = None
text_step parts (byte ∷ bytes) rest =
    if is_some (parted (codes "]]>") (byte ∷ bytes)) then None else option_map (λ text. (false, said parts text, rest)) (text_after false parts.text (byte ∷ bytes))

abbrev pub open_step : Reading → Parts → List ℕ → Option (List ℕ) → Step
open_step element parts rest None = text_step parts (run (Until 0x3C) rest) (past (Until 0x3C) rest)
open_step element parts rest (Some it) = child_step parts (element it)

abbrev pub end_step : Reading → Parts → List ℕ → Option (List ℕ) → Step
end_step element parts rest None = open_step element parts rest (after (codes "<") rest)
end_step element parts rest (Some it) = Some (true, parts, it)

abbrev pub section_step : Reading → Parts → List ℕ → Option (List ℕ × List ℕ) → Step
section_step element parts rest None = end_step element parts rest (after (codes "</") rest)
section_step element parts rest (Some it) = Some (false, said parts (parts.text ++ it.0), it.1)

abbrev pub passed_step : Reading → Parts → List ℕ → Option (List ℕ) → Step
passed_step element parts rest None = section_step element parts rest (section rest)
passed_step element parts rest (Some it) = Some (false, parts, it)

-- a comment or an instruction, a CDATA section, the beginning of the end tag, a child, or a text
unfoldable pub content_step : Reading → Parts → List ℕ → Step
content_step element parts rest = passed_step element parts rest (passed rest)

abbrev pub content_next : (Parts → List ℕ → Option (Parts × List ℕ)) → Step → Option (Parts × List ℕ)
content_next more None = None
content_next more (Some it) = if it.0 then Some (it.1, it.2) else more it.1 it.2

-- the content of an element up to the name in its end tag. The number bounds the turns; one more than the bytes is always enough
unfoldable pub content : Reading → ℕ → Parts → List ℕ → Option (Parts × List ℕ)
content element zero parts rest = None
content element (suc n) parts rest = content_next (content element n) (content_step element parts rest)

-- ---- an element

abbrev pub opened : List Attribute → Parts
opened attributes = record { attributes = attributes; names = []; children = []; text = [] }

abbrev pub end_named : List ℕ → List ℕ × List ℕ → Option (List ℕ)
end_named name it = if bytes_eq it.0 name then after (codes ">") (past_blanks it.1) else None

-- what stands after the end tag of this name
abbrev pub past_end : List ℕ → List ℕ → Option (List ℕ)
past_end name rest = option_and_then (end_named name) (named rest)

abbrev pub ended : List ℕ → Parts × List ℕ → Option ((List ℕ × Json) × List ℕ)
ended name it = option_map (λ rest. ((name, element_json it.0), rest)) (past_end name it.1)

abbrev pub inside : Reading → List ℕ → Parts → Option (List ℕ) → Option ((List ℕ × Json) × List ℕ)
inside element name parts None = None
inside element name parts (Some rest) = option_and_then (ended name) (content element (length rest + 1) parts rest)

abbrev pub empty_or : Reading → List ℕ → Parts → List ℕ → Option (List ℕ) → Option ((List ℕ × Json) × List ℕ)
empty_or element name parts rest None = inside element name parts (after (codes ">") rest)
empty_or element name parts rest (Some it) = Some ((name, element_json parts), it)

abbrev pub started : Reading → List ℕ → List Attribute × List ℕ → Option ((List ℕ × Json) × List ℕ)
started element name it = empty_or element name (opened it.0) it.1 (after (codes "/>") it.1)

-- an element after its `<`: its name and its value, and what stands after it; elements nest no deeper than the number
unfoldable pub element : ℕ → Reading
unfolding content
element zero rest = None
element (suc depth) rest = option_and_then (λ it. option_and_then (started (element depth) it.0) (attributes_of it.1)) (named rest)

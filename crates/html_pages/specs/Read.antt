-- HTML as a reader sees it.
use Rattle.std.specs.Prelude.{ℕ, ◌==◌, if◌then◌else◌, List, [], ◌∷◌, ◌++◌, codes}
use Rattle.std.specs.Str.{bytes_eq}

-- in a text, in a tag, or in an entity, of whose name these bytes were read
pub data Within : Type 0 where
  Text : Within
  Tag : Within
  Entity : List ℕ → Within

-- the character that an entity names; an unknown one is text
abbrev pub entity : List ℕ → List ℕ
entity name =
    if bytes_eq name (codes "amp") then 0x26 ∷ [] else if bytes_eq name (codes "lt") then 0x3C ∷ [] else if bytes_eq name (codes "gt") then 0x3E ∷ []
    else if bytes_eq name (codes "quot") then 0x22 ∷ [] else 0x26 ∷ (name ++ 0x3B ∷ [])

-- what is read of bytes: tags are taken out, from `<` to `>`, and entities are read, from `&` to `;`
unfoldable pub read_in : Within → List ℕ → List ℕ
read_in within [] = []
read_in Text (x ∷ xs) = if x == 0x3C then read_in Tag xs else if x == 0x26 then read_in (Entity []) xs else x ∷ read_in Text xs
read_in Tag (x ∷ xs) = if x == 0x3E then read_in Text xs else read_in Tag xs
read_in (Entity name) (x ∷ xs) = if x == 0x3B then entity name ++ read_in Text xs else read_in (Entity (name ++ x ∷ [])) xs

abbrev pub read : List ℕ → List ℕ
read bytes = read_in Text bytes

use Rattle.std.specs.Prelude.{ℕ, List, Option, Some, None, ◌++◌, codes, []}
use Rattle.std.specs.declared.cmp.Ordering.{Ordering}
use Rattle.std.specs.Ordering.{nat_cmp, ordering_then}
use Rattle.std.specs.Option.{option_cmp}
use Rattle.std.specs.Cmp.Lexicographic.{slice_cmp}

-- the two parts of a code, each of which may be missing
pub record CodeParts : Type 0 where
  pub scope : Option (List ℕ)
  pub number : Option (List ℕ)

-- what a code prints
abbrev pub code_text : Option (List ℕ) → Option (List ℕ) → List ℕ
code_text (Some scope) (Some number) = scope ++ codes "(" ++ number ++ codes ")"
code_text (Some scope) None = scope
code_text None (Some number) = number
code_text None None = []

-- the text of a code, none where neither part is there
abbrev pub shown_code : Option (List ℕ) → Option (List ℕ) → Option (List ℕ)
shown_code None None = None
shown_code (Some scope) number = Some (code_text (Some scope) number)
shown_code None (Some number) = Some number

-- the same of the two parts of a code
abbrev pub shown_of : CodeParts → Option (List ℕ)
shown_of code = shown_code code.scope code.number

-- a part that is there stays, one that is missing becomes the given text
abbrev pub part_or : Option (List ℕ) → List ℕ → Option (List ℕ)
part_or (Some part) text = Some part
part_or None text = Some text

-- a code whose scope, or whose number, becomes the given text if it is missing
abbrev pub code_with_scope : CodeParts → List ℕ → CodeParts
code_with_scope code scope = record code { scope = part_or code.scope scope }

abbrev pub code_with_number : CodeParts → List ℕ → CodeParts
code_with_number code number = record code { number = part_or code.number number }

-- the order of two texts that may be missing: none comes first, texts go by their bytes
abbrev pub text_cmp : Option (List ℕ) → Option (List ℕ) → Ordering
text_cmp = option_cmp (slice_cmp nat_cmp)

-- the order of codes: by scope, then by number
abbrev pub code_cmp : CodeParts → CodeParts → Ordering
code_cmp a b = ordering_then (text_cmp a.scope b.scope) (text_cmp a.number b.number)

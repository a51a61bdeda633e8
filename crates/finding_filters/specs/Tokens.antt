-- The parts of patterns, and the texts that they take.
use Rattle.std.specs.Prelude.{◌≡◌, ◌≢◌, ⊤, ℕ, ◌==◌, ◌&&◌, ◌||◌, not, Bool, true, false, List, [], ◌∷◌, ◌++◌, All, if◌then◌else◌}
use Rattle.finding_filters.specs.declared.tokens.Ending.{Ending}
use Rattle.finding_filters.specs.declared.tokens.Ending.TheVariants.{Nothing, NothingOrSlash, Slash}
use Rattle.finding_filters.specs.declared.tokens.Token.{Token}
use Rattle.finding_filters.specs.declared.tokens.Token.TheVariants.{Exactly, One, Each, Run, Any}

-- ---- what a pattern means

-- the text that a token takes
abbrev pub IsPiece : Token → List ℕ → Type 0
IsPiece (Exactly wanted) piece = piece ≡ wanted ∷ []
IsPiece One piece = (c : ℕ) × (piece ≡ c ∷ []) × (c ≢ 0x2F)
IsPiece Each piece = (c : ℕ) × (piece ≡ c ∷ [])
IsPiece Run piece = All (λ c. c ≢ 0x2F) piece
IsPiece Any piece = ⊤

-- what may come after it
abbrev pub end_of : Ending → List ℕ → Bool
end_of Nothing [] = true
end_of Nothing (c ∷ rest) = false
end_of NothingOrSlash [] = true
end_of NothingOrSlash (c ∷ rest) = c == 0x2F
end_of Slash [] = false
end_of Slash (c ∷ rest) = c == 0x2F

-- a text is a piece for each token, and then such an end
abbrev pub Takes : Ending → List Token → List ℕ → Type 0
Takes ending [] text = end_of ending text ≡ true
Takes ending (token ∷ tokens) text = (piece : List ℕ) × (rest : List ℕ) × (text ≡ piece ++ rest) × IsPiece token piece × Takes ending tokens rest

abbrev pub is_star_first : List ℕ → Bool
is_star_first [] = false
is_star_first (c ∷ rest) = c == 0x2A

-- what a character of a pattern stands for, beside a star or not; in a rule a slash is like any other character
abbrev pub token_in : Bool → Bool → ℕ → Token
token_in rule beside c =
    if c == 0x2A then (if rule || beside then Any else Run) else if c == 0x3F then (if rule then Each else One) else Exactly c

-- what the characters of a pattern stand for
abbrev pub tokens_of : Bool → Bool → List ℕ → List Token
tokens_of rule after_star [] = []
tokens_of rule after_star (c ∷ rest) = token_in rule (after_star || is_star_first rest) c ∷ tokens_of rule (c == 0x2A) rest

-- ---- the same as a test

-- a test of texts with a piece before what another test takes
abbrev pub takes_one : Token → (List ℕ → Bool) → List ℕ → Bool
takes_one (Exactly wanted) next [] = false
takes_one (Exactly wanted) next (c ∷ rest) = c == wanted && next rest
takes_one One next [] = false
takes_one One next (c ∷ rest) = not (c == 0x2F) && next rest
takes_one Each next [] = false
takes_one Each next (c ∷ rest) = next rest
takes_one Run next [] = next []
takes_one Run next (c ∷ rest) = next (c ∷ rest) || (not (c == 0x2F) && takes_one Run next rest)
takes_one Any next [] = next []
takes_one Any next (c ∷ rest) = next (c ∷ rest) || takes_one Any next rest

-- tokens from the last on
abbrev pub takes_all : (List ℕ → Bool) → List Token → List ℕ → Bool
takes_all next [] = next
takes_all next (token ∷ tokens) = takes_all (takes_one token next) tokens

-- the same from the first token on
abbrev pub takes : Ending → List Token → List ℕ → Bool
takes ending [] = end_of ending
takes ending (token ∷ tokens) = takes_one token (takes ending tokens)

-- ---- the tests of all end parts of a text, from the empty one on; the text is given from its last character on

abbrev pub values_of : (List ℕ → Bool) → List ℕ → List ℕ → List Bool
values_of test end [] = test end ∷ []
values_of test end (c ∷ text) = test end ∷ values_of test (c ∷ end) text

unfoldable pub row_of : (List ℕ → Bool) → List ℕ → List Bool
row_of test text = values_of test [] text

abbrev pub first_value : Token → Bool → Bool
first_value (Exactly wanted) old = false
first_value One old = false
first_value Each old = false
first_value Run old = old
first_value Any old = old

abbrev pub value_of : Token → ℕ → Bool → Bool → Bool → Bool
value_of (Exactly wanted) c here before last = c == wanted && before
value_of One c here before last = not (c == 0x2F) && before
value_of Each c here before last = before
value_of Run c here before last = here || (not (c == 0x2F) && last)
value_of Any c here before last = here || last

abbrev pub head_value : List Bool → Bool
head_value [] = false
head_value (value ∷ row) = value

abbrev pub last_value : List Bool → Bool
last_value [] = false
last_value (value ∷ []) = value
last_value (value ∷ next ∷ row) = last_value (next ∷ row)

abbrev pub stepped : Token → Bool → List ℕ → List Bool → List Bool
stepped token last [] row = []
stepped token last (c ∷ text) [] = []
stepped token last (c ∷ text) (before ∷ olds) =
    value_of token c (head_value olds) before last ∷ stepped token (value_of token c (head_value olds) before last) text olds

-- the row for one token before the others
unfoldable pub step_row : Token → List ℕ → List Bool → List Bool
step_row token text row = first_value token (head_value row) ∷ stepped token (first_value token (head_value row)) text row

abbrev pub step_first : List Token → List ℕ → List Bool → List Bool
step_first [] text row = row
step_first (token ∷ tokens) text row = step_row token text row

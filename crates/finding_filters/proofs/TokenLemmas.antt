-- Tests of the end parts of a text.
use Rattle.std.proofs.Common.{◌≡◌, ℕ, suc, ◌-◌, ◌≤◌, length, map, get_or, take, drop, reverse, arith, Bool, true, false, ◌&&◌, ◌||◌, List, [], ◌∷◌, refl, ap, ◌∙◌}
use mathlib.Core.List.{reverse_aux}
use Rattle.std.proofs.lemmas.List.{take_all}
use Rattle.finding_filters.specs.Tokens.{end_of, first_value, head_value, last_value, row_of, step_first, step_row, stepped, takes_all, takes_one, value_of, values_of}
use Rattle.finding_filters.specs.declared.tokens.Ending.{Ending}
use Rattle.finding_filters.specs.declared.tokens.Ending.TheVariants.{Nothing, NothingOrSlash, Slash}
use Rattle.finding_filters.specs.declared.tokens.Token.{Token}
use Rattle.finding_filters.specs.declared.tokens.Token.TheVariants.{Exactly, One, Each, Run, Any}

head_values : (test : List ℕ → Bool) (end text : List ℕ) → head_value (values_of test end text) ≡ test end
head_values test end [] = refl
head_values test end (c ∷ text) = refl

first_is : (token : Token) (test : List ℕ → Bool) → first_value token (test []) ≡ takes_one token test []
first_is (Exactly wanted) test = refl
first_is One test = refl
first_is Each test = refl
first_is Run test = refl
first_is Any test = refl

value_is : (token : Token) (test : List ℕ → Bool) (c : ℕ) (end : List ℕ) → value_of token c (test (c ∷ end)) (test end) (takes_one token test end) ≡ takes_one token test (c ∷ end)
value_is (Exactly wanted) test c end = refl
value_is One test c end = refl
value_is Each test c end = refl
value_is Run test c end = refl
value_is Any test c end = refl

stepped_is : (token : Token) (test : List ℕ → Bool) (end text : List ℕ)
    → takes_one token test end ∷ stepped token (takes_one token test end) text (values_of test end text) ≡ values_of (takes_one token test) end text
stepped_is token test end [] = refl
stepped_is token test end (c ∷ text) =
    let value : value_of token c (head_value (values_of test (c ∷ end) text)) (test end) (takes_one token test end) ≡ takes_one token test (c ∷ end) =
    ap (λ here. value_of token c here (test end) (takes_one token test end)) (head_values test (c ∷ end) text) ∙ value_is token test c end in
    ap (λ last. takes_one token test end ∷ last ∷ stepped token last text (values_of test (c ∷ end) text)) value
    ∙ ap (λ row. takes_one token test end ∷ row) (stepped_is token test (c ∷ end) text)

-- a row for one token more
pub step_is : (token : Token) (test : List ℕ → Bool) (text : List ℕ) → step_row token text (row_of test text) ≡ row_of (takes_one token test) text
unfolding step_row row_of
step_is token test text =
    let first : first_value token (head_value (values_of test [] text)) ≡ takes_one token test [] =
    ap (first_value token) (head_values test [] text) ∙ first_is token test in
    ap (λ last. last ∷ stepped token last text (values_of test [] text)) first ∙ stepped_is token test [] text

-- ---- the ends of rows

ends_from : (ending : Ending) (end text : List ℕ) → values_of (end_of ending) end text ≡ end_of ending end ∷ map (λ c. end_of ending (c ∷ [])) text
ends_from ending end [] = refl
ends_from ending end (c ∷ text) =
    ap (λ row. end_of ending end ∷ row) (ends_from ending (c ∷ end) text ∙ ap (λ said. said ∷ map (λ c. end_of ending (c ∷ [])) text) (end_here ending c end))
  where
    end_here : (ending : Ending) (c : ℕ) (end : List ℕ) → end_of ending (c ∷ end) ≡ end_of ending (c ∷ [])
    end_here Nothing c end = refl
    end_here NothingOrSlash c end = refl
    end_here Slash c end = refl

pub ends_row : (ending : Ending) (text : List ℕ) → row_of (end_of ending) text ≡ end_of ending [] ∷ map (λ c. end_of ending (c ∷ [])) text
unfolding row_of
ends_row ending text = ends_from ending [] text

pub last_is : (row : List Bool) (d : Bool) → 1 ≤ length row → last_value row ≡ get_or row (length row - 1) d
last_is [] d some = absurd (omega arith)
last_is (value ∷ []) d some = refl
last_is (value ∷ next ∷ row) d some =
    let one : suc (length (next ∷ row) - 1) ≡ length (value ∷ next ∷ row) - 1 = omega arith in
    last_is (next ∷ row) d (omega arith) ∙ ap (λ n. get_or (value ∷ next ∷ row) n d) one

last_from : (test : List ℕ → Bool) (end text : List ℕ) → last_value (values_of test end text) ≡ test (reverse_aux text end)
last_from test end [] = refl
last_from test end (c ∷ []) = refl
last_from test end (c ∷ d ∷ text) = last_from test (c ∷ end) (d ∷ text)

-- the last value is that of the whole text
pub last_row : (test : List ℕ → Bool) (text : List ℕ) → last_value (row_of test text) ≡ test (reverse text)
unfolding row_of
last_row test text = last_from test [] text

pub ruleset row_rules = (last_row, step_is)

abbrev pub first_taken : List Token → (List ℕ → Bool) → List ℕ → Bool
first_taken [] test = test
first_taken (token ∷ tokens) test = takes_one token test

pub first_is_taken : (tokens : List Token) (test : List ℕ → Bool) (text : List ℕ) → step_first tokens text (row_of test text) ≡ row_of (first_taken tokens test) text
first_is_taken [] test text = refl
first_is_taken (token ∷ tokens) test text = step_is token test text

pub others_taken : (tokens : List Token) (test : List ℕ → Bool) → 1 ≤ length tokens
    → takes_all (first_taken tokens test) (take (length tokens - 1) (drop 1 tokens)) ≡ takes_all test tokens
others_taken [] test some = absurd (omega arith)
others_taken (token ∷ tokens) test some = ap (takes_all (takes_one token test)) (take_all (length (token ∷ tokens) - 1) tokens (omega arith))

-- a pattern that begins at any folder takes what comes after any characters and a slash
pub slash_row : (test : List ℕ → Bool) (text : List ℕ)
    → last_value (step_row Any text (step_row (Exactly 0x2F) text (row_of test text))) ≡ takes_one Any (takes_one (Exactly 0x2F) test) (reverse text)
slash_row test text =
    ap (λ row. last_value (step_row Any text row)) (step_is (Exactly 0x2F) test text) ∙ ap last_value (step_is Any (takes_one (Exactly 0x2F) test) text)
    ∙ last_row (takes_one Any (takes_one (Exactly 0x2F) test)) text

pub or_last : (a w b said : Bool) → a ≡ false → w ≡ true → said ≡ b → said ≡ (a || (w && b))
or_last true w b said no_first here is = cc
or_last false true b said no_first here is = is
or_last false false b said no_first here is = cc

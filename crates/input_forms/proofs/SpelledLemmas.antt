-- A text in which neither `files"` nor an escape by a number stands has no key `files`.
use Rattle.std.proofs.Common.{take, drop, ◌-◌, nat_eq, zero, suc, zero-add, inl, inr, ◌≡◌, ℕ, ◌+◌, ◌<◌, ◌≤◌, ◌==◌, ◌&&◌, ◌||◌, Bool, true, false, cond, if◌then◌else◌, List, [], ◌∷◌, ◌++◌, length, slice_index, codes, Option, Some, None, option_map, option_and_then, refl, sym, ap, ◌∙◌, subst, arith, nat_lt}
use Rattle.std.specs.Prelude.{⊤}
use Rattle.std.specs.List.{list_any, starts_with}
use Rattle.std.specs.Str.{bytes_eq, is_utf8}
use Rattle.std.proofs.lemmas.Bool.{or_parts}
use Rattle.std.proofs.lemmas.List.{length-append}
use Rattle.std.proofs.lemmas.Bool.{cases_Bool, eqb-true}
use Rattle.std.proofs.lemmas.Bool.Decides.{nat_tests}
use Rattle.std.proofs.lemmas.Slice.Eq.{bytes_eq-Decides}
use Rattle.json.specs.Ascii as ascii
use Rattle.json.specs.Token.{Token, begin_object, end_object, begin_array, end_array, number, boolean, null, bad}
use Rattle.json.specs.Lex.{tokens, lex, punctuate, class, Lexeme, Mode, Class, Place, lex_byte, string_token, operator_lexeme, place_token, if_allowed, begins_colon, may_begin, may_close}
use Rattle.json.specs.Text.{content, short_escape, prepend, Within}
use Rattle.json.specs.Word.{word, literal, number_before, after_number, ends_word, head}
use Rattle.memchr.specs.Find.{OccursAt, FindsNeedle}
use Rattle.std.specs.Option.{is_some}
use Rattle.input_forms.specs.Scanned.{is_files_key, names_files}

-- ---- where a needle doesn't stand

abbrev pub Free : List ℕ → List ℕ → Type 0
Free needle text = (k : ℕ) → ¬ OccursAt text needle k

free_behind : (needle : List ℕ) (x : ℕ) (xs : List ℕ) → Free needle (x ∷ xs) → Free needle xs
free_behind needle x xs free k at =
    let next : (j : ℕ) → k + 1 + j ≡ suc (k + j) = λ j. omega arith in
    free (k + 1) (record { fits = omega (arith, at.fits); reads = λ j below. ap (slice_index (x ∷ xs)) (next j) ∙ at.reads j below })

-- a needle stands at the front of itself and more
front : (needle rest : List ℕ) → OccursAt (needle ++ rest) needle 0
front needle rest = record { fits = omega (arith, length-append needle rest); reads = λ j below. ap (slice_index (needle ++ rest)) (zero-add j) ∙ read needle j below }
  where
    read : (n : List ℕ) (j : ℕ) → j < length n → slice_index (n ++ rest) j ≡ slice_index n j
    read [] j below = absurd (omega (arith, below))
    read (x ∷ xs) zero below = refl
    read (x ∷ xs) (suc j) below = read xs j (omega (arith, below))

-- ---- what a text between quotes is

-- each character is a letter
abbrev Letters : List ℕ → Type 0
Letters [] = ⊤
Letters (c ∷ cs) = (0x61 ≤ c) × Letters cs

-- `\u`
abbrev pub numbered : List ℕ
numbered = 0x5C ∷ 0x75 ∷ []

some_of : (x c : ℕ) → Some x ≡ Some c → x ≡ c
some_of x c is = cc

is_low : (x : ℕ) → (((x == 0x22) || (x == 0x5C)) || (x == 0x2F)) ≡ true → x < 0x61
is_low x e = grind (arith, nat_tests, e)

no_letter : (x c : ℕ) → short_escape x ≡ Some c → c < 0x61
unfolding short_escape
no_letter x c is =
    go ((x == ascii.quote) || (x == ascii.backslash) || (x == ascii.slash)) (x == ascii.lower_b) (x == ascii.lower_f) (x == ascii.lower_n) (x == ascii.lower_r) (x == ascii.lower_t) (is_low x) is
  where
    less : (y : ℕ) → y < 0x61 → Some y ≡ Some c → c < 0x61
    less y below same = subst (λ v. v < 0x61) (some_of y c same) below

    go : (a b f n r t : Bool) → (a ≡ true → x < 0x61)
        → cond a (Some x) (cond b (Some 8) (cond f (Some 12) (cond n (Some 10) (cond r (Some 13) (cond t (Some 9) None))))) ≡ Some c → c < 0x61
    go true b f n r t below same = less x (below refl) same
    go false true f n r t below same = less 8 (omega arith) same
    go false false true n r t below same = less 12 (omega arith) same
    go false false false true r t below same = less 10 (omega arith) same
    go false false false false true t below same = less 13 (omega arith) same
    go false false false false false true below same = less 9 (omega arith) same
    go false false false false false false below same = cc

-- a text before a quote that is spelled without such an escape is itself
data Spelled (s xs : List ℕ) : Type 0 where
  spelled : (rest : List ℕ) → xs ≡ s ++ 0x22 ∷ rest → Spelled s xs

some_list : (a b : List ℕ) → Some a ≡ Some b → a ≡ b
some_list a b is = cc

one_more : (x : ℕ) (s xs : List ℕ) → Spelled s xs → Spelled (x ∷ s) (x ∷ xs)
one_more x s xs (spelled rest is) = spelled rest (ap (λ l. x ∷ l) is)

letters_head : (c : ℕ) (t s : List ℕ) → c ∷ t ≡ s → Letters s → (0x61 ≤ c) × Letters t
letters_head c t s same letters = subst Letters (sym same) letters

unescaped : (s : List ℕ) (it : Option (List ℕ)) (c : ℕ) → c < 0x61 → Letters s → prepend (c ∷ []) it ≡ Some s → ⊥
unescaped s None c below letters same = cc
unescaped s (Some t) c below letters same = omega (arith, below, (letters_head c t s (some_list (c ∷ t) s same) letters).0)

escaped : (s : List ℕ) (y : ℕ) (ys : List ℕ) → Letters s → Free numbered (0x5C ∷ y ∷ ys) → content Within.after_backslash (y ∷ ys) ≡ Some s → ⊥
unfolding content
escaped s y ys letters free is = go (y == ascii.lower_u) (eqb-true y 0x75) (short_escape y) (no_letter y) is
  where
    go : (u : Bool) → (u ≡ true → y ≡ 0x75) → (short : Option ℕ) → ((c : ℕ) → short ≡ Some c → c < 0x61)
        → cond u (content Within.after_u ys) (option_and_then (λ c. prepend (c ∷ []) (content Within.plain ys)) short) ≡ Some s → ⊥
    go true u short low same = free 0 (subst (λ v. OccursAt (0x5C ∷ v ∷ ys) numbered 0) (sym (u refl)) (front numbered ys))
    go false u None low same = cc
    go false u (Some c) low same = unescaped s (content Within.plain ys) c (low c refl) letters same

plainly : (s xs : List ℕ) → Letters s → Free numbered xs → content Within.plain xs ≡ Some s → Spelled s xs
unfolding content
plainly s [] letters free is = cc
plainly s (x ∷ xs) letters free is =
    go (x == ascii.quote) (x == ascii.backslash) (nat_lt x ascii.space) (eqb-true x 0x22) (eqb-true x 0x5C) (λ t later e. plainly t xs later (free_behind numbered x xs free) e) is
  where
    behind : (xs : List ℕ) → Free numbered (0x5C ∷ xs) → content Within.after_backslash xs ≡ Some s → ⊥
    behind [] free same = cc
    behind (y ∷ ys) free same = escaped s y ys letters free same

    on : ((t : List ℕ) → Letters t → content Within.plain xs ≡ Some t → Spelled t xs) → (it : Option (List ℕ)) → content Within.plain xs ≡ it → prepend (x ∷ []) it ≡ Some s → Spelled s (x ∷ xs)
    on later None e same = cc
    on later (Some t) e same =
        let is : x ∷ t ≡ s = some_list (x ∷ t) s same in
        subst (λ v. Spelled v (x ∷ xs)) is (one_more x t xs (later t (letters_head x t s is letters).1 e))

    go : (q b l : Bool) → (q ≡ true → x ≡ 0x22) → (b ≡ true → x ≡ 0x5C) → ((t : List ℕ) → Letters t → content Within.plain xs ≡ Some t → Spelled t xs)
        → cond q (Some []) (cond b (content Within.after_backslash xs) (cond l None (prepend (x ∷ []) (content Within.plain xs)))) ≡ Some s → Spelled s (x ∷ xs)
    go true b l quote slash later same = subst (λ v. Spelled v (x ∷ xs)) (some_list [] s same) (spelled xs (ap (λ v. v ∷ xs) (quote refl)))
    go false true l quote slash later same = absurd (behind xs (subst (λ v. Free numbered (v ∷ xs)) (slash refl) free) same)
    go false false true quote slash later same = cc
    go false false false quote slash later same = on later (content Within.plain xs) refl same

-- ---- lexemes and tokens

abbrev files : List ℕ
files = codes "files"

-- `files"`
abbrev pub quoted : List ℕ
quoted = 0x66 ∷ 0x69 ∷ 0x6C ∷ 0x65 ∷ 0x73 ∷ 0x22 ∷ []

-- it is this text
abbrev is_files : Token → Bool
is_files Token.begin_object = false
is_files Token.end_object = false
is_files Token.begin_array = false
is_files Token.end_array = false
is_files (Token.key s) = bytes_eq s files
is_files (Token.string s) = bytes_eq s files
is_files (Token.number s) = false
is_files (Token.boolean b) = false
is_files Token.null = false
is_files Token.bad = false

abbrev names : Lexeme → Bool
names (Lexeme.token t) = is_files t
names Lexeme.comma = false
names Lexeme.colon = false

no_string : (it : Option (List ℕ)) (xs : List ℕ) → Free quoted xs → Free numbered xs → content Within.plain xs ≡ it → is_files (string_token it) ≡ false
no_string None xs free numberless is = refl
no_string (Some s) xs free numberless is = elim (cases_Bool (bytes_eq s files)) [ inl said ↦ absurd (apart said) | inr other ↦ other ]
  where
    letters : Letters files
    letters = (omega arith, (omega arith, (omega arith, (omega arith, (omega arith, tt)))))

    found : Spelled files xs → ⊥
    found (spelled rest same) = free 0 (subst (λ t. OccursAt t quoted 0) (sym same) (front quoted rest))

    apart : bytes_eq s files ≡ true → ⊥
    apart said = found (plainly files xs letters numberless (is ∙ ap Some ((bytes_eq-Decides s files).0 said)))

word_lacks : (t : List ℕ) → is_files (word t) ≡ false
unfolding word
word_lacks t = go (head t == ascii.lower_t) (head t == ascii.lower_f) (head t == ascii.lower_n) (after_number t)
  where
    said : (b : Bool) (v : Token) → is_files v ≡ false → is_files (cond b v bad) ≡ false
    said true v none = none
    said false v none = refl

    counted : (rest : Option (List ℕ)) → is_files (number_before t rest) ≡ false
    counted None = refl
    counted (Some rest) = said (ends_word rest) (number (take (length t - length rest) t)) refl

    go : (b f n : Bool) (rest : Option (List ℕ)) → is_files (cond b (literal ascii.true_text (boolean true) t) (cond f (literal ascii.false_text (boolean false) t) (cond n (literal ascii.null_text null t) (number_before t rest)))) ≡ false
    go true f n rest = said (starts_with nat_eq t ascii.true_text && ends_word (drop (length ascii.true_text) t)) (boolean true) refl
    go false true n rest = said (starts_with nat_eq t ascii.false_text && ends_word (drop (length ascii.false_text) t)) (boolean false) refl
    go false false true rest = said (starts_with nat_eq t ascii.null_text && ends_word (drop (length ascii.null_text) t)) null refl
    go false false false rest = counted rest

operator_lacks : (x : ℕ) → names (operator_lexeme x) ≡ false
operator_lacks x = go (x == ascii.open_brace) (x == ascii.close_brace) (x == ascii.open_bracket) (x == ascii.close_bracket) (x == ascii.comma)
  where
    go : (a b c d e : Bool) → names (cond a (Lexeme.token begin_object) (cond b (Lexeme.token end_object) (cond c (Lexeme.token begin_array) (cond d (Lexeme.token end_array) (cond e Lexeme.comma Lexeme.colon))))) ≡ false
    go true b c d e = refl
    go false true c d e = refl
    go false false true d e = refl
    go false false false true e = refl
    go false false false false true = refl
    go false false false false false = refl

lacks_both : (l : Lexeme) (ls : List Lexeme) → names l ≡ false → list_any names ls ≡ false → list_any names (l ∷ ls) ≡ false
lacks_both l ls one rest = rw (one, rest) refl

lexemes_lack : (mode : Mode) (text : List ℕ) → Free quoted text → Free numbered text → list_any names (lex mode text) ≡ false
unfolding lex
lexemes_lack mode [] free numberless = refl
lexemes_lack mode (x ∷ xs) free numberless =
    step mode (class x) (λ next. lexemes_lack next xs (free_behind quoted x xs free) (free_behind numbered x xs numberless))
  where
    step : (mode : Mode) (c : Class) → ((next : Mode) → list_any names (lex next xs) ≡ false) → list_any names (lex_byte mode c x xs (λ next. lex next xs)) ≡ false
    step Mode.between Class.quote rest =
        lacks_both (Lexeme.token (string_token (content Within.plain xs))) (lex Mode.in_string xs)
        (no_string (content Within.plain xs) xs (free_behind quoted x xs free) (free_behind numbered x xs numberless) refl) (rest Mode.in_string)
    step Mode.between Class.backslash rest = rest Mode.in_word
    step Mode.between Class.operator rest = lacks_both (operator_lexeme x) (lex Mode.between xs) (operator_lacks x) (rest Mode.between)
    step Mode.between Class.space rest = rest Mode.between
    step Mode.between Class.other rest = lacks_both (Lexeme.token (word (x ∷ xs))) (lex Mode.in_word xs) (word_lacks (x ∷ xs)) (rest Mode.in_word)
    step Mode.in_word Class.quote rest = rest Mode.in_word
    step Mode.in_word Class.backslash rest = rest Mode.in_word
    step Mode.in_word Class.operator rest = lacks_both (operator_lexeme x) (lex Mode.between xs) (operator_lacks x) (rest Mode.between)
    step Mode.in_word Class.space rest = rest Mode.between
    step Mode.in_word Class.other rest = rest Mode.in_word
    step Mode.in_string Class.quote rest = rest Mode.between
    step Mode.in_string Class.backslash rest = rest Mode.in_escape
    step Mode.in_string Class.operator rest = rest Mode.in_string
    step Mode.in_string Class.space rest = rest Mode.in_string
    step Mode.in_string Class.other rest = rest Mode.in_string
    step Mode.in_escape c rest = rest Mode.in_string

abbrev KeyLess : List Token → Type 0
KeyLess ts = list_any is_files_key ts ≡ false

allowed_lacks : (ok : Bool) (t : Token) (k : Place → List Token) (next : Place) → is_files_key t ≡ false → ((p : Place) → KeyLess (k p)) → KeyLess (if_allowed ok t k next)
allowed_lacks true t k next one rest = rw (one, rest next) refl
allowed_lacks false t k next one rest = refl

placed_lacks : (p : Place) (t : Token) (before : Bool) (k : Place → List Token) → is_files t ≡ false → ((p : Place) → KeyLess (k p)) → KeyLess (place_token p t before k)
placed_lacks p Token.begin_object before k none rest = allowed_lacks (may_begin p) begin_object k Place.fresh refl rest
placed_lacks p Token.end_object before k none rest = allowed_lacks (may_close p) end_object k Place.after_value refl rest
placed_lacks p Token.begin_array before k none rest = allowed_lacks (may_begin p) begin_array k Place.fresh refl rest
placed_lacks p Token.end_array before k none rest = allowed_lacks (may_close p) end_array k Place.after_value refl rest
placed_lacks p (Token.key s) before k none rest = refl
placed_lacks p (Token.string s) true k none rest = allowed_lacks (may_begin p) (Token.key s) k Place.after_key none rest
placed_lacks p (Token.string s) false k none rest = allowed_lacks (may_begin p) (Token.string s) k Place.after_value refl rest
placed_lacks p (Token.number s) before k none rest = allowed_lacks (may_begin p) (number s) k Place.after_value refl rest
placed_lacks p (Token.boolean b) before k none rest = allowed_lacks (may_begin p) (boolean b) k Place.after_value refl rest
placed_lacks p Token.null before k none rest = allowed_lacks (may_begin p) null k Place.after_value refl rest
placed_lacks p Token.bad before k none rest = refl

tokens_lack : (p : Place) (ls : List Lexeme) → list_any names ls ≡ false → KeyLess (punctuate p ls)
unfolding punctuate
tokens_lack Place.fresh [] none = refl
tokens_lack Place.after_value [] none = refl
tokens_lack Place.after_comma [] none = refl
tokens_lack Place.after_key [] none = refl
tokens_lack Place.fresh (Lexeme.token t ∷ ls) none = let parts = or_parts (is_files t) (list_any names ls) none in placed_lacks Place.fresh t (begins_colon ls) (λ next. punctuate next ls) parts.0 (λ next. tokens_lack next ls parts.1)
tokens_lack Place.after_value (Lexeme.token t ∷ ls) none = let parts = or_parts (is_files t) (list_any names ls) none in placed_lacks Place.after_value t (begins_colon ls) (λ next. punctuate next ls) parts.0 (λ next. tokens_lack next ls parts.1)
tokens_lack Place.after_comma (Lexeme.token t ∷ ls) none = let parts = or_parts (is_files t) (list_any names ls) none in placed_lacks Place.after_comma t (begins_colon ls) (λ next. punctuate next ls) parts.0 (λ next. tokens_lack next ls parts.1)
tokens_lack Place.after_key (Lexeme.token t ∷ ls) none = let parts = or_parts (is_files t) (list_any names ls) none in placed_lacks Place.after_key t (begins_colon ls) (λ next. punctuate next ls) parts.0 (λ next. tokens_lack next ls parts.1)
tokens_lack Place.fresh (Lexeme.comma ∷ ls) none = refl
tokens_lack Place.after_value (Lexeme.comma ∷ ls) none = tokens_lack Place.after_comma ls none
tokens_lack Place.after_comma (Lexeme.comma ∷ ls) none = refl
tokens_lack Place.after_key (Lexeme.comma ∷ ls) none = refl
tokens_lack Place.fresh (Lexeme.colon ∷ ls) none = refl
tokens_lack Place.after_value (Lexeme.colon ∷ ls) none = refl
tokens_lack Place.after_comma (Lexeme.colon ∷ ls) none = refl
tokens_lack Place.after_key (Lexeme.colon ∷ ls) none = tokens_lack Place.fresh ls none

pub unspelled : (text : List ℕ) → Free quoted text → Free numbered text → list_any is_files_key (tokens text) ≡ false
unspelled text free numberless = tokens_lack Place.fresh (lex Mode.between text) (lexemes_lack Mode.between text free numberless)

-- nothing was found from the beginning on
nowhere : (text needle : List ℕ) (found : Option ℕ) → FindsNeedle text needle 0 found → is_some found ≡ false → Free needle text
nowhere text needle None none is = λ k at. none k (omega arith) (omega (arith, at.fits)) at
nowhere text needle (Some k) none is = cc

pub none_found : (text : List ℕ) (a b : Option ℕ) → FindsNeedle text quoted 0 a → FindsNeedle text numbered 0 b → is_some a ≡ false → is_some b ≡ false → names_files text ≡ false
unfolding names_files
none_found text a b first second neither other =
    elim (is_utf8 text) as (λ utf8. (if utf8 then list_any is_files_key (tokens text) else false) ≡ false) [
      | true ↦ unspelled text (nowhere text quoted a first neither) (nowhere text numbered b second other)
      | false ↦ refl
    ]

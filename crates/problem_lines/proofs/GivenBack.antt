-- The lines of problems, one after another, are read as these problems.
use Rattle.std.proofs.Common.{◌≡◌, ◌≢◌, ℕ, zero, suc, ◌^◌, ◌<◌, ◌≤◌, false, ◌==◌, List, [], ◌∷◌, ◌++◌, length, map, get_or, Option, Some, None, unwrap_or, Result, Ok, Err, Vec, IfOk, IfErr, codes, decimal, refl, sym, ap, ap₂, ◌∙◌, subst, inl, inr, ◌⊎◌, arith, append_assoc}
use Rattle.std.specs.declared.alloc.Global.{Global}
use Rattle.std.specs.List.{All, flat_map, list_any}
use Rattle.std.proofs.lemmas.Bool.{cases_eq, ne_eqb, eqb-false, or_parts}
use Rattle.std.proofs.lemmas.Bool.Decides.{nat_tests}
use Rattle.std.proofs.lemmas.Str.Parse.{digit_at}
use Rattle.std.proofs.lemmas.Fmt.{decimal_is_IsNumeral}
use Rattle.oxc_protocol.specs.declared.reporter.Info.{Info}
use Rattle.oxc_protocol.specs.declared.protocol.Severity.{Severity}
use Rattle.oxc_protocol.specs.declared.protocol.Severity.TheVariants.{Error, Warning, Advice}
use Rattle.oxc_protocol.specs.declared.reporter.InfoPosition.{InfoPosition}
use Rattle.problem_lines.specs.declared.escape.Field.{Field}
use Rattle.problem_lines.specs.declared.escape.Field.TheVariants.{Name, Rule, Message}
use Rattle.problem_lines.specs.declared.read.ProblemError.{ProblemError}
use Rattle.problem_lines.specs.declared.read.ProblemError.TheVariants.{NotALine, OutOfMemory}
use Rattle.oxc_protocol.specs.Info.{InfoParts, info_parts}
use Rattle.problem_lines.specs.Escape.{own_letter, letter_of, spelled, escape_byte, escape}
use Rattle.problem_lines.specs.Line.{severity_name, place_text, rule_text, head_text, tail_text, problem_line, IsSmall, IsInRange}
use Rattle.problem_lines.specs.Parsed.{parsed, unescaped}
use Rattle.problem_lines.specs.Lines.{lines_of, IsProblemLine, IsFirstOther, IsCause, AreProblemsOf, GivesBack, IsOneProblem}
use Rattle.problem_lines.proofs.BackLemmas.{Free, free_append, one_free, pair_free, parsed_back, escaped, returns_whole}
use Rattle.problem_lines.proofs.LinesLemmas.{lines_front}

-- ---- a line is that of one problem

pub one_problem : (p q : InfoParts) → IsOneProblem p q
one_problem p q low high same =
    let parts : Some (escaped p) ≡ Some (escaped q) = sym (parsed_back p low) ∙ ap parsed same ∙ parsed_back q high in
    sym (returns_whole p) ∙ ap (λ o. unescaped (unwrap_or o (escaped p))) parts ∙ returns_whole q

-- ---- no LF but the last

abbrev Plain : List ℕ → Type 0
Plain = Free 0x0A

plain_literal : (xs : List ℕ) → list_any (λ b. b == 0x0A) xs ≡ false → Plain xs
plain_literal [] none k h e = omega arith
plain_literal (x ∷ xs) none zero h e = eqb-false x 0x0A (or_parts (x == 0x0A) _ none).0 e
plain_literal (x ∷ xs) none (suc k) h e = plain_literal xs (or_parts (x == 0x0A) _ none).1 k (omega arith) e

own_high : (field : Field) (x letter : ℕ) → own_letter field x ≡ Some letter → 0x5C ≤ letter
own_high Name x letter is = grind (arith, nat_tests)
own_high Rule x letter is = grind (arith, nat_tests)
own_high Message x letter is = cc

plain_own : (x : ℕ) (letter : Option ℕ) → x ≢ 0x0A → ((l : ℕ) → letter ≡ Some l → 0x5C ≤ l) → Plain (spelled x letter)
plain_own x None lf high = one_free 0x0A x lf
plain_own x (Some l) lf high = pair_free 0x0A 0x5C l (λ e. omega arith) (λ e. omega (arith, high l refl))

plain_byte : (field : Field) (x : ℕ) → Plain (escape_byte field x)
unfolding escape_byte letter_of
plain_byte field x = go (cases_eq x 0x5C) (cases_eq x 0x0A) (cases_eq x 0x0D)
  where
    go : (x ≡ 0x5C) ⊎ (x ≡ 0x5C → ⊥) → (x ≡ 0x0A) ⊎ (x ≡ 0x0A → ⊥) → (x ≡ 0x0D) ⊎ (x ≡ 0x0D → ⊥) → Plain (escape_byte field x)
    go (inl e) b c = rw e (plain_literal (0x5C ∷ 0x5C ∷ []) refl)
    go (inr a) (inl e) c = rw e (plain_literal (0x5C ∷ 0x6E ∷ []) refl)
    go (inr a) (inr b) (inl e) = rw e (plain_literal (0x5C ∷ 0x72 ∷ []) refl)
    go (inr a) (inr b) (inr c) = rw (ne_eqb x 0x5C a, ne_eqb x 0x0A b, ne_eqb x 0x0D c) (plain_own x (own_letter field x) b (own_high field x))

plain_escape : (field : Field) (text : List ℕ) → Plain (escape field text)
unfolding escape
plain_escape field [] k h e = omega arith
plain_escape field (x ∷ xs) k h e = free_append 0x0A (escape_byte field x) (flat_map (escape_byte field) xs) (plain_byte field x) (plain_escape field xs) k h e

plain_decimal : (n : ℕ) → n < 2 ^ 64 → Plain (decimal n)
plain_decimal n small k h e = let d = digit_at (decimal n) k (decimal_is_IsNumeral n small).0.1 h in omega (arith, d, e)

both : (xs ys : List ℕ) → Plain xs → Plain ys → Plain (xs ++ ys)
both xs ys left right = free_append 0x0A xs ys left right

plain_place : (place : InfoPosition) → IsSmall place → Plain (place_text place)
unfolding place_text
plain_place place small =
    both (decimal place.line ++ codes ":" ++ decimal place.column) (codes ":")
    (both (decimal place.line ++ codes ":") (decimal place.column) (both (decimal place.line) (codes ":") (plain_decimal place.line small.line) (plain_literal (codes ":") refl)) (plain_decimal place.column small.column))
    (plain_literal (codes ":") refl)

plain_head : (p : InfoParts) → IsInRange p → Plain (head_text p)
unfolding head_text
plain_head p small =
    both (escape Name p.filename ++ codes ":" ++ place_text p.start) (place_text p.end)
    (both (escape Name p.filename ++ codes ":") (place_text p.start) (both (escape Name p.filename) (codes ":") (plain_escape Name p.filename) (plain_literal (codes ":") refl)) (plain_place p.start small.start))
    (plain_place p.end small.end)

plain_severity : (severity : Severity) → Plain (severity_name severity)
plain_severity Error = plain_literal (codes "error") refl
plain_severity Warning = plain_literal (codes "warning") refl
plain_severity Advice = plain_literal (codes "advice") refl

plain_rule : (rule : Option (List ℕ)) → Plain (rule_text rule)
unfolding rule_text
plain_rule None = plain_literal [] refl
plain_rule (Some rule) = both (codes "[" ++ escape Rule rule) (codes "]") (both (codes "[") (escape Rule rule) (plain_literal (codes "[") refl) (plain_escape Rule rule)) (plain_literal (codes "]") refl)

-- a line without its LF
abbrev inner_tail : InfoParts → List ℕ
inner_tail p = codes " " ++ severity_name p.severity ++ rule_text p.rule_id ++ codes ": " ++ escape Message p.message

plain_tail : (p : InfoParts) → Plain (inner_tail p)
plain_tail p =
    both (codes " " ++ severity_name p.severity ++ rule_text p.rule_id ++ codes ": ") (escape Message p.message)
    (both (codes " " ++ severity_name p.severity ++ rule_text p.rule_id) (codes ": ")
    (both (codes " " ++ severity_name p.severity) (rule_text p.rule_id) (both (codes " ") (severity_name p.severity) (plain_literal (codes " ") refl) (plain_severity p.severity)) (plain_rule p.rule_id))
    (plain_literal (codes ": ") refl))
    (plain_escape Message p.message)

line_shape : (p : InfoParts) → problem_line p ≡ (head_text p ++ inner_tail p) ++ 0x0A ∷ []
unfolding problem_line tail_text
line_shape p = sym (append_assoc (head_text p) (inner_tail p) (0x0A ∷ []))

line_first : (p : InfoParts) (rest : List ℕ) → IsInRange p → lines_of (problem_line p ++ rest) ≡ problem_line p ∷ lines_of rest
line_first p rest small =
    let front = head_text p ++ inner_tail p in
    let plain = both (head_text p) (inner_tail p) (plain_head p small) (plain_tail p) in
    rw (line_shape p) (ap lines_of (append_assoc front (0x0A ∷ []) rest) ∙ lines_front front rest (λ k h. ne_eqb (get_or front k 0) 0x0A (plain k h)))

lines_back : (ps : List InfoParts) → All IsInRange ps → lines_of (flat_map problem_line ps) ≡ map problem_line ps
unfolding lines_of
lines_back [] small = refl
lines_back (p ∷ ps) small = line_first p (flat_map problem_line ps) (small 0 p (omega arith)) ∙ ap (λ l. problem_line p ∷ l) (lines_back ps (λ k d lt. small (suc k) d (omega arith)))

-- ---- the answer

head_same : (p q : List ℕ) (ps qs : List (List ℕ)) → p ∷ ps ≡ q ∷ qs → (p ≡ q) × (ps ≡ qs)
head_same p q ps qs same = (cc, cc)

same_problems : (ps qs : List InfoParts) → All IsInRange ps → All IsInRange qs → map problem_line ps ≡ map problem_line qs → ps ≡ qs
same_problems [] [] low high same = refl
same_problems [] (q ∷ qs) low high same = cc
same_problems (p ∷ ps) [] low high same = cc
same_problems (p ∷ ps) (q ∷ qs) low high same =
    let parts = head_same (problem_line p) (problem_line q) (map problem_line ps) (map problem_line qs) same in
    ap₂ (λ x xs. x ∷ xs) (one_problem p q (low 0 p (omega arith)) (high 0 q (omega arith)) parts.0) (same_problems ps qs (λ k d lt. low (suc k) d (omega arith)) (λ k d lt. high (suc k) d (omega arith)) parts.1)

all_lines : (ps : List InfoParts) (k : ℕ) → k < length (map problem_line ps) → All IsInRange ps → IsProblemLine (get_or (map problem_line ps) k [])
all_lines [] k lt all = absurd (omega arith)
all_lines (p ∷ ps) zero lt all = record { problem = p; in_range = all 0 p (omega arith); same = refl }
all_lines (p ∷ ps) (suc k) lt all = all_lines ps k (omega arith) (λ j d low. all (suc j) d (omega arith))

pub given_back : (text : List ℕ) (r : Result (Vec Info Global) ProblemError) → IfOk r (λ infos. AreProblemsOf (map info_parts infos.items) text) → IfErr r (λ e. IsCause (lines_of text) e)
    → (problems : List InfoParts) → All IsInRange problems → text ≡ flat_map problem_line problems → GivesBack r problems
given_back text (Ok infos) read cause problems small joined = same_problems (map info_parts infos.items) problems read.in_range small (read.lines ∙ ap lines_of joined ∙ lines_back problems small)
given_back text (Err OutOfMemory) read cause problems small joined = refl
given_back text (Err (NotALine n)) read cause problems small joined =
    let lines : lines_of text ≡ map problem_line problems = ap lines_of joined ∙ lines_back problems small in
    let bad : IsFirstOther (map problem_line problems) n = subst (λ l. IsFirstOther l n) lines cause in
    absurd (bad.here (all_lines problems n bad.within small))

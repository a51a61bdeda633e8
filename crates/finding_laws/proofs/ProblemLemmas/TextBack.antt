-- The text of a plain problem: nothing in it is escaped.
use Rattle.std.proofs.Common.{◌≡◌, ℕ, ◌^◌, ◌<◌, ◌==◌, ◌&&◌, ◌||◌, not, if◌then◌else◌, Bool, true, false, List, [], ◌∷◌, ◌++◌, length, Option, Some, None, decimal, refl, sym, ap, ap₂, ◌∙◌, append_assoc, eqb-true}
use Rattle.std.specs.Prelude.{nat_lt}
use Rattle.std.specs.List.{list_all, slice_index, suffix_len}
use Rattle.std.proofs.lemmas.Bool.{and_parts, ltb-true, not-true, or_parts}
use Rattle.std.proofs.lemmas.List.{append_cancel_right}
use Rattle.line_shapes.specs.declared.bytes.Kind.TheVariants.{Blank, InRule}
use Rattle.line_shapes.specs.declared.name.NameKind.TheVariants.{Any}
use Rattle.line_shapes.specs.Bytes.{is_in}
use Rattle.line_shapes.specs.Name.{is_name}
use Rattle.oxc_protocol.specs.declared.protocol.Severity.{Severity as OwnSeverity}
use Rattle.oxc_protocol.specs.declared.reporter.InfoPosition.{InfoPosition}
use Rattle.oxc_protocol.specs.Info.{InfoParts}
use Rattle.problem_lines.specs.declared.escape.Field.{Field}
use Rattle.problem_lines.specs.declared.escape.Field.TheVariants.{Name, Rule, Message}
use Rattle.problem_lines.specs.Escape.{escape, escape_byte, letter_of, own_letter, spelled}
use Rattle.problem_lines.specs.Line.{head_text, place_text, problem_line, rule_text, severity_name, tail_text}
use Rattle.tool_lines.specs.Lines.{begun}
use Rattle.finding_laws.specs.Problems.Plain.{begins_bracket, has_no_colon, is_own, is_plain, is_plain_code, is_plain_message, is_plain_name, is_small_place, is_unpadded}
use Rattle.finding_laws.specs.Problems.Read.{ReadsBack}
use Rattle.finding_laws.proofs.ProblemLemmas.NameBack.{not_this}
use Rattle.finding_laws.proofs.ProblemLemmas.PlaceBack.{line_of, numbers_text}
use Rattle.finding_laws.proofs.ProblemLemmas.SaidBack.{IsSayable, coded_text, uncoded_text}
use Rattle.finding_laws.proofs.ProblemLemmas.LineBack.{IsNameable, coded_back, uncoded_back}

-- ---- nothing is escaped

pub own_parts : (x : ℕ) → is_own x ≡ true → ((x == 0x5C) ≡ false) × (((x == 0x0A) ≡ false) × ((x == 0x0D) ≡ false))
own_parts x own =
    let out : (x == 0x5C || x == 0x0A || x == 0x0D) ≡ false = not-true (x == 0x5C || x == 0x0A || x == 0x0D) own in
    let two : ((x == 0x5C || x == 0x0A) ≡ false) × ((x == 0x0D) ≡ false) = or_parts (x == 0x5C || x == 0x0A) (x == 0x0D) out in
    let one : ((x == 0x5C) ≡ false) × ((x == 0x0A) ≡ false) = or_parts (x == 0x5C) (x == 0x0A) two.0 in
    (one.0, (one.1, two.1))

abbrev letter_by : Bool → Bool → Bool → Option ℕ → Option ℕ
letter_by a b c own = if a then Some 0x5C else if b then Some 0x6E else if c then Some 0x72 else own

no_letter : (a b c : Bool) (own : Option ℕ) → a ≡ false → b ≡ false → c ≡ false → own ≡ None → letter_by a b c own ≡ None
no_letter false false false own p q r none = none
no_letter true b c own p q r none = cc
no_letter false true c own p q r none = cc
no_letter false false true own p q r none = cc

own_byte : (field : Field) (x : ℕ) → is_own x ≡ true → own_letter field x ≡ None → escape_byte field x ≡ x ∷ []
unfolding escape_byte letter_of
own_byte field x own none =
    let parts : ((x == 0x5C) ≡ false) × (((x == 0x0A) ≡ false) × ((x == 0x0D) ≡ false)) = own_parts x own in
    ap (spelled x) (no_letter (x == 0x5C) (x == 0x0A) (x == 0x0D) (own_letter field x) parts.0 parts.1.0 parts.1.1 none)

name_same : (text : List ℕ) → list_all is_own text ≡ true → has_no_colon text ≡ true → escape Name text ≡ text
unfolding escape
name_same [] own none = refl
name_same (x ∷ xs) own none =
    let mine : (is_own x ≡ true) × (list_all is_own xs ≡ true) = and_parts (is_own x) (list_all is_own xs) own in
    let parts : (not (x == 0x3A) ≡ true) × (has_no_colon xs ≡ true) = and_parts (not (x == 0x3A)) (has_no_colon xs) none in
    ap₂ (λ a b. a ++ b) (own_byte Name x mine.0 (ap (λ v. if v then Some 0x63 else None) (not-true (x == 0x3A) parts.0))) (name_same xs mine.1 parts.1)

no_closing : (x : ℕ) → is_in InRule x ≡ true → (x == 0x5D) ≡ false
no_closing x is = not_this (is_in InRule) x 0x5D is refl

rule_same : (text : List ℕ) → list_all is_own text ≡ true → list_all (is_in InRule) text ≡ true → escape Rule text ≡ text
unfolding escape
rule_same [] own all = refl
rule_same (x ∷ xs) own all =
    let mine : (is_own x ≡ true) × (list_all is_own xs ≡ true) = and_parts (is_own x) (list_all is_own xs) own in
    let parts : (is_in InRule x ≡ true) × (list_all (is_in InRule) xs ≡ true) = and_parts (is_in InRule x) (list_all (is_in InRule) xs) all in
    ap₂ (λ a b. a ++ b) (own_byte Rule x mine.0 (ap (λ v. if v then Some 0x62 else None) (no_closing x parts.0))) (rule_same xs mine.1 parts.1)

message_same : (text : List ℕ) → list_all is_own text ≡ true → escape Message text ≡ text
unfolding escape
message_same [] own = refl
message_same (x ∷ xs) own =
    let mine : (is_own x ≡ true) × (list_all is_own xs ≡ true) = and_parts (is_own x) (list_all is_own xs) own in
    ap₂ (λ a b. a ++ b) (own_byte Message x mine.0 refl) (message_same xs mine.1)

-- ---- the parts of a line, joined otherwise

pair_joined : (l c rest : List ℕ) → (l ++ (0x3A ∷ []) ++ c ++ (0x3A ∷ [])) ++ rest ≡ l ++ 0x3A ∷ (c ++ 0x3A ∷ rest)
pair_joined l c rest = append_assoc (l ++ (0x3A ∷ []) ++ c) (0x3A ∷ []) rest ∙ (append_assoc (l ++ (0x3A ∷ [])) c (0x3A ∷ rest) ∙ append_assoc l (0x3A ∷ []) (c ++ 0x3A ∷ rest))

regroup : (name l c m d said : List ℕ) → (name ++ (0x3A ∷ []) ++ (l ++ (0x3A ∷ []) ++ c ++ (0x3A ∷ [])) ++ (m ++ (0x3A ∷ []) ++ d ++ (0x3A ∷ []))) ++ 0x20 ∷ said ≡ name ++ 0x3A ∷ (l ++ 0x3A ∷ (c ++ 0x3A ∷ (m ++ 0x3A ∷ (d ++ 0x3A ∷ 0x20 ∷ said))))
regroup name l c m d said =
    let first : List ℕ = l ++ (0x3A ∷ []) ++ c ++ (0x3A ∷ []) in
    let second : List ℕ = m ++ (0x3A ∷ []) ++ d ++ (0x3A ∷ []) in
    append_assoc (name ++ (0x3A ∷ []) ++ first) second (0x20 ∷ said)
    ∙ (append_assoc (name ++ (0x3A ∷ [])) first (second ++ 0x20 ∷ said)
    ∙ (append_assoc name (0x3A ∷ []) (first ++ (second ++ 0x20 ∷ said))
    ∙ ap (λ t. name ++ 0x3A ∷ t) (pair_joined l c (second ++ 0x20 ∷ said) ∙ ap (λ t. l ++ 0x3A ∷ (c ++ 0x3A ∷ t)) (pair_joined m d (0x20 ∷ said)))))

ended : (name l c m d said last : List ℕ) → (name ++ 0x3A ∷ (l ++ 0x3A ∷ (c ++ 0x3A ∷ (m ++ 0x3A ∷ (d ++ 0x3A ∷ 0x20 ∷ said))))) ++ last ≡ name ++ 0x3A ∷ (l ++ 0x3A ∷ (c ++ 0x3A ∷ (m ++ 0x3A ∷ (d ++ 0x3A ∷ 0x20 ∷ (said ++ last)))))
ended name l c m d said last =
    append_assoc name (0x3A ∷ (l ++ 0x3A ∷ (c ++ 0x3A ∷ (m ++ 0x3A ∷ (d ++ 0x3A ∷ 0x20 ∷ said))))) last
    ∙ ap (λ t. name ++ 0x3A ∷ t) (append_assoc l (0x3A ∷ (c ++ 0x3A ∷ (m ++ 0x3A ∷ (d ++ 0x3A ∷ 0x20 ∷ said)))) last
    ∙ ap (λ t. l ++ 0x3A ∷ t) (append_assoc c (0x3A ∷ (m ++ 0x3A ∷ (d ++ 0x3A ∷ 0x20 ∷ said))) last
    ∙ ap (λ t. c ++ 0x3A ∷ t) (append_assoc m (0x3A ∷ (d ++ 0x3A ∷ 0x20 ∷ said)) last ∙ ap (λ t. m ++ 0x3A ∷ t) (append_assoc d (0x3A ∷ 0x20 ∷ said) last))))

uncoded_tail : (severity message : List ℕ) → (0x20 ∷ []) ++ severity ++ [] ++ (0x3A ∷ 0x20 ∷ []) ++ message ++ (0x0A ∷ []) ≡ 0x20 ∷ ((severity ++ 0x3A ∷ 0x20 ∷ message) ++ 0x0A ∷ [])
uncoded_tail severity message = ap (λ t. 0x20 ∷ (t ++ 0x0A ∷ [])) (append_assoc (severity ++ []) (0x3A ∷ 0x20 ∷ []) message ∙ append_assoc severity [] (0x3A ∷ 0x20 ∷ message))

coded_tail : (severity code message : List ℕ) → (0x20 ∷ []) ++ severity ++ ((0x5B ∷ []) ++ code ++ (0x5D ∷ [])) ++ (0x3A ∷ 0x20 ∷ []) ++ message ++ (0x0A ∷ []) ≡ 0x20 ∷ ((severity ++ 0x5B ∷ (code ++ 0x5D ∷ (0x3A ∷ (0x20 ∷ message)))) ++ 0x0A ∷ [])
coded_tail severity code message =
    let rule : List ℕ = 0x5B ∷ (code ++ 0x5D ∷ []) in
    ap (λ t. 0x20 ∷ (t ++ 0x0A ∷ []))
    (append_assoc (severity ++ rule) (0x3A ∷ 0x20 ∷ []) message ∙ (append_assoc severity rule (0x3A ∷ 0x20 ∷ message) ∙ ap (λ t. severity ++ 0x5B ∷ t) (append_assoc code (0x5D ∷ []) (0x3A ∷ 0x20 ∷ message))))

abbrev head_with : List ℕ → InfoPosition → InfoPosition → List ℕ
head_with name start end = name ++ (0x3A ∷ []) ++ (decimal start.line ++ (0x3A ∷ []) ++ decimal start.column ++ (0x3A ∷ [])) ++ (decimal end.line ++ (0x3A ∷ []) ++ decimal end.column ++ (0x3A ∷ []))

joined : (name said tail : List ℕ) (start end : InfoPosition) → tail ≡ 0x20 ∷ (said ++ 0x0A ∷ []) → head_with name start end ++ tail ≡ line_of name (numbers_text start.line start.column end.line end.column said) ++ 0x0A ∷ []
joined name said tail start end is =
    ap (λ t. head_with name start end ++ t) is
    ∙ (regroup name (decimal start.line) (decimal start.column) (decimal end.line) (decimal end.column) (said ++ 0x0A ∷ [])
    ∙ sym (ended name (decimal start.line) (decimal start.column) (decimal end.line) (decimal end.column) said (0x0A ∷ [])))

abbrev pub problem_of : InfoPosition → InfoPosition → List ℕ → List ℕ → OwnSeverity → Option (List ℕ) → InfoParts
problem_of start end name message severity rule = record { start = start; end = end; filename = name; message = message; severity = severity; rule_id = rule }

pub text_uncoded : (start end : InfoPosition) (name message : List ℕ) (severity : OwnSeverity) → list_all is_own name ≡ true → has_no_colon name ≡ true → list_all is_own message ≡ true
    → problem_line (problem_of start end name message severity None) ≡ line_of name (numbers_text start.line start.column end.line end.column (uncoded_text severity message)) ++ 0x0A ∷ []
unfolding problem_line head_text tail_text place_text rule_text
text_uncoded start end name message severity own none message_own =
    ap₂ (λ a b. head_with a start end ++ ((0x20 ∷ []) ++ severity_name severity ++ [] ++ (0x3A ∷ 0x20 ∷ []) ++ b ++ (0x0A ∷ []))) (name_same name own none) (message_same message message_own)
    ∙ joined name (uncoded_text severity message) _ start end (uncoded_tail (severity_name severity) message)

pub text_coded : (start end : InfoPosition) (name code message : List ℕ) (severity : OwnSeverity) → list_all is_own name ≡ true → has_no_colon name ≡ true → list_all is_own message ≡ true → list_all is_own code ≡ true → list_all (is_in InRule) code ≡ true
    → problem_line (problem_of start end name message severity (Some code)) ≡ line_of name (numbers_text start.line start.column end.line end.column (coded_text severity code message)) ++ 0x0A ∷ []
unfolding problem_line head_text tail_text place_text rule_text
text_coded start end name code message severity own none message_own code_own in_rule =
    ap₂ (λ a b. head_with a start end ++ ((0x20 ∷ []) ++ severity_name severity ++ ((0x5B ∷ []) ++ escape Rule code ++ (0x5D ∷ [])) ++ (0x3A ∷ 0x20 ∷ []) ++ b ++ (0x0A ∷ []))) (name_same name own none) (message_same message message_own)
    ∙ (ap (λ r. head_with name start end ++ ((0x20 ∷ []) ++ severity_name severity ++ ((0x5B ∷ []) ++ r ++ (0x5D ∷ [])) ++ (0x3A ∷ 0x20 ∷ []) ++ message ++ (0x0A ∷ []))) (rule_same code code_own in_rule)
    ∙ joined name (coded_text severity code message) _ start end (coded_tail (severity_name severity) code message))

-- ---- what is asked of a problem

abbrev pub name_parts : List ℕ → Type 0
name_parts name = IsNameable name × (list_all is_own name ≡ true)

plain_name : (name : List ℕ) → is_plain_name name ≡ true → name_parts name
plain_name name plain =
    let a : ((is_name Any name (length name) && list_all is_own name && has_no_colon name) ≡ true) × (not (begins_bracket name) ≡ true) =
    and_parts (is_name Any name (length name) && list_all is_own name && has_no_colon name) (not (begins_bracket name)) plain in
    let b : ((is_name Any name (length name) && list_all is_own name) ≡ true) × (has_no_colon name ≡ true) = and_parts (is_name Any name (length name) && list_all is_own name) (has_no_colon name) a.0 in
    let c : (is_name Any name (length name) ≡ true) × (list_all is_own name ≡ true) = and_parts (is_name Any name (length name)) (list_all is_own name) b.0 in
    (record { is = c.0; no_colon = b.1; no_bracket = not-true (begins_bracket name) a.1 }, c.1)

plain_message : (message : List ℕ) → is_plain_message message ≡ true → IsSayable message × (list_all is_own message ≡ true)
plain_message message plain =
    let a : ((nat_lt 0 (length message) && list_all is_own message && is_unpadded message) ≡ true) × (not (begins_bracket message) ≡ true) =
    and_parts (nat_lt 0 (length message) && list_all is_own message && is_unpadded message) (not (begins_bracket message)) plain in
    let b : ((nat_lt 0 (length message) && list_all is_own message) ≡ true) × (is_unpadded message ≡ true) = and_parts (nat_lt 0 (length message) && list_all is_own message) (is_unpadded message) a.0 in
    let c : (nat_lt 0 (length message) ≡ true) × (list_all is_own message ≡ true) = and_parts (nat_lt 0 (length message)) (list_all is_own message) b.0 in
    let d : (not (is_in Blank (slice_index message 0)) ≡ true) × ((suffix_len (is_in Blank) message == 0) ≡ true) = and_parts (not (is_in Blank (slice_index message 0))) (suffix_len (is_in Blank) message == 0) b.1 in
    (record { some = c.0; no_blank = not-true (is_in Blank (slice_index message 0)) d.0; no_bracket = not-true (begins_bracket message) a.1; no_last_blank = eqb-true (suffix_len (is_in Blank) message) 0 d.1 }, c.1)

small_place : (place : InfoPosition) → is_small_place place ≡ true → (place.line < 2 ^ 32) × (place.column < 2 ^ 32)
small_place place plain =
    let both : (nat_lt place.line (2 ^ 32) ≡ true) × (nat_lt place.column (2 ^ 32) ≡ true) = and_parts (nat_lt place.line (2 ^ 32)) (nat_lt place.column (2 ^ 32)) plain in
    (ltb-true place.line (2 ^ 32) both.0, ltb-true place.column (2 ^ 32) both.1)

-- what is known of a plain code
pub record IsCode (code : List ℕ) : Type 0 where
  pub some : nat_lt 0 (length code) ≡ true
  pub own : list_all is_own code ≡ true
  pub in_rule : list_all (is_in InRule) code ≡ true

pub plain_code : (code message : List ℕ) → is_plain_code (Some code) message ≡ true → IsCode code
plain_code code message plain =
    let a : ((nat_lt 0 (length code) && list_all is_own code) ≡ true) × (list_all (is_in InRule) code ≡ true) = and_parts (nat_lt 0 (length code) && list_all is_own code) (list_all (is_in InRule) code) plain in
    let b : (nat_lt 0 (length code) ≡ true) × (list_all is_own code ≡ true) = and_parts (nat_lt 0 (length code)) (list_all is_own code) a.0 in
    record { some = b.0; own = b.1; in_rule = a.1 }

-- a line that is a text with an LF behind it
line_is : (whole text line : List ℕ) → whole ≡ text ++ 0x0A ∷ [] → whole ≡ line ++ 0x0A ∷ [] → text ≡ line
line_is whole text line is same = append_cancel_right text line (0x0A ∷ []) (sym is ∙ same)

back_by : (start end : InfoPosition) (name message : List ℕ) (severity : OwnSeverity) (rule : Option (List ℕ))
    → name_parts name → (start.line < 2 ^ 32) × (start.column < 2 ^ 32) → (end.line < 2 ^ 32) × (end.column < 2 ^ 32) → IsSayable message × (list_all is_own message ≡ true) → is_plain_code rule message ≡ true
    → ReadsBack (problem_of start end name message severity rule)
back_by start end name message severity None named low high says plain line next same away =
    let text : List ℕ = line_of name (numbers_text start.line start.column end.line end.column (uncoded_text severity message)) in
    let is : text ≡ line = line_is (problem_line (problem_of start end name message severity None)) text line (text_uncoded start end name message severity named.1 named.0.no_colon says.1) same in
    ap (λ l. begun [] l next) (sym is) ∙ uncoded_back name message severity start.line start.column end.line end.column next named.0 says.0 plain low.0 low.1 high.0 high.1 away
back_by start end name message severity (Some code) named low high says plain line next same away =
    let of : IsCode code = plain_code code message plain in
    let text : List ℕ = line_of name (numbers_text start.line start.column end.line end.column (coded_text severity code message)) in
    let is : text ≡ line = line_is (problem_line (problem_of start end name message severity (Some code))) text line (text_coded start end name code message severity named.1 named.0.no_colon says.1 of.own of.in_rule) same in
    ap (λ l. begun [] l next) (sym is) ∙ coded_back name code message severity start.line start.column end.line end.column next named.0 says.0 of.some of.in_rule low.0 low.1 high.0 high.1 away

-- what is known of a plain problem
pub record IsPlainProblem (p : InfoParts) : Type 0 where
  pub named : name_parts p.filename
  pub low : (p.start.line < 2 ^ 32) × (p.start.column < 2 ^ 32)
  pub high : (p.end.line < 2 ^ 32) × (p.end.column < 2 ^ 32)
  pub says : IsSayable p.message × (list_all is_own p.message ≡ true)
  pub code : is_plain_code p.rule_id p.message ≡ true

pub plain_problem : (p : InfoParts) → is_plain p ≡ true → IsPlainProblem p
plain_problem p plain =
    let a : ((is_plain_name p.filename && is_small_place p.start && is_small_place p.end && is_plain_message p.message) ≡ true) × (is_plain_code p.rule_id p.message ≡ true) =
    and_parts (is_plain_name p.filename && is_small_place p.start && is_small_place p.end && is_plain_message p.message) (is_plain_code p.rule_id p.message) plain in
    let b : ((is_plain_name p.filename && is_small_place p.start && is_small_place p.end) ≡ true) × (is_plain_message p.message ≡ true) =
    and_parts (is_plain_name p.filename && is_small_place p.start && is_small_place p.end) (is_plain_message p.message) a.0 in
    let c : ((is_plain_name p.filename && is_small_place p.start) ≡ true) × (is_small_place p.end ≡ true) = and_parts (is_plain_name p.filename && is_small_place p.start) (is_small_place p.end) b.0 in
    let d : (is_plain_name p.filename ≡ true) × (is_small_place p.start ≡ true) = and_parts (is_plain_name p.filename) (is_small_place p.start) c.0 in
    record { named = plain_name p.filename d.0; low = small_place p.start d.1; high = small_place p.end c.1; says = plain_message p.message b.1; code = a.1 }

pub read_back : (p : InfoParts) → is_plain p ≡ true → ReadsBack p
read_back p plain =
    let is : IsPlainProblem p = plain_problem p plain in
    back_by p.start p.end p.filename p.message p.severity p.rule_id is.named is.low is.high is.says is.code

-- What stands behind a problem's place is its severity, its code and its message.
use Rattle.std.proofs.Common.{◌≡◌, ℕ, suc, ◌+◌, ◌-◌, ◌==◌, true, false, if◌then◌else◌, cond, List, [], ◌∷◌, ◌++◌, length, take, drop, Option, Some, None, refl, ap, ◌∙◌, arith}
use Rattle.std.specs.Prelude.{nat_lt}
use Rattle.std.specs.List.{slice_index, list_all, prefix_len, suffix_len}
use Rattle.std.specs.Option.{is_none, option_map, option_and_then, option_or}
use Rattle.std.proofs.lemmas.Bool.{and_parts}
use Rattle.std.proofs.lemmas.List.{take_all, take_at, drop_at}
use Rattle.line_shapes.specs.declared.bytes.Kind.TheVariants.{Blank, InRule}
use Rattle.line_shapes.specs.declared.level.Level.{Level}
use Rattle.line_shapes.specs.declared.part.Part.{Part}
use Rattle.line_shapes.specs.declared.part.Part.TheVariants.{Byte, Blanks, Rule, Message, Level as ALevel}
use Rattle.line_shapes.specs.declared.tables.Manner.{Manner}
use Rattle.line_shapes.specs.declared.tables.Manner.TheVariants.{Plain, Ruled}
use Rattle.line_shapes.specs.Bytes.{is_in, some_run, trimmed}
use Rattle.line_shapes.specs.Level.{level_at, level_words}
use Rattle.line_shapes.specs.Part.{Seen, before, fit, with_code, with_level}
use Rattle.line_shapes.specs.Said.{code_behind, first_whole, meant, meant_with, rests, said, whole, with_code as words_with}
use Rattle.oxc_protocol.specs.declared.protocol.Severity.{Severity as OwnSeverity}
use Rattle.oxc_protocol.specs.declared.protocol.Severity.TheVariants.{Error as AnError, Warning as AWarning, Advice as AnAdvice}
use Rattle.problem_lines.specs.Line.{severity_name}
use Rattle.finding_laws.specs.Problems.Read.{severity_meant}
use Rattle.finding_laws.proofs.ProblemLemmas.PlaceBack.{blank_taken, no_bracket_there, places_found}

-- what is asked of a message
pub record IsSayable (message : List ℕ) : Type 0 where
  pub some : nat_lt 0 (length message) ≡ true
  pub no_blank : is_in Blank (slice_index message 0) ≡ false
  pub no_bracket : (slice_index message 0 == 0x5B) ≡ false
  pub no_last_blank : suffix_len (is_in Blank) message ≡ 0

abbrev level_meant : OwnSeverity → Level
level_meant severity = record { length = length (severity_name severity); severity = severity_meant severity; aside = false }

level_before_colon : (severity : OwnSeverity) (rest : List ℕ) → level_at (severity_name severity ++ 0x3A ∷ rest) ≡ Some (level_meant severity)
unfolding level_words
level_before_colon AnError rest = refl
level_before_colon AWarning rest = refl
level_before_colon AnAdvice rest = refl

level_before_bracket : (severity : OwnSeverity) (rest : List ℕ) → level_at (severity_name severity ++ 0x5B ∷ rest) ≡ Some (level_meant severity)
unfolding level_words
level_before_bracket AnError rest = refl
level_before_bracket AWarning rest = refl
level_before_bracket AnAdvice rest = refl

abbrev leveled : OwnSeverity → List ℕ → Seen → Seen
leveled severity text s = record s { rest = text; severity = Some (severity_meant severity); aside = false }

-- a level word is taken
level_taken : (severity : OwnSeverity) (text : List ℕ) (parts : List Part) (s : Seen) → level_at (severity_name severity ++ text) ≡ Some (level_meant severity)
    → fit (ALevel ∷ parts) (record s { rest = severity_name severity ++ text }) ≡ fit parts (leveled severity text s)
level_taken AnError text parts s e = ap (λ o. option_and_then (fit parts) (option_map (λ (level : Level). with_level level (record s { rest = severity_name AnError ++ text })) o)) e
level_taken AWarning text parts s e = ap (λ o. option_and_then (fit parts) (option_map (λ (level : Level). with_level level (record s { rest = severity_name AWarning ++ text })) o)) e
level_taken AnAdvice text parts s e = ap (λ o. option_and_then (fit parts) (option_map (λ (level : Level). with_level level (record s { rest = severity_name AnAdvice ++ text })) o)) e

-- the message is what is left
message_taken_whole : (message : List ℕ) (s : Seen) → IsSayable message → fit (Message ∷ []) (record s { rest = message }) ≡ Some (record s { rest = []; message = Some message })
message_taken_whole [] s plain = let some : nat_lt 0 0 ≡ true = plain.some in cc
message_taken_whole (x ∷ xs) s plain = ap (λ v. option_and_then (fit []) (if v then None else Some (record s { rest = []; message = Some (x ∷ xs) }))) plain.no_blank

-- a code is taken
all_in_rule : (code more : List ℕ) → list_all (is_in InRule) code ≡ true → prefix_len (is_in InRule) (code ++ 0x5D ∷ more) ≡ length code
all_in_rule [] more all = refl
all_in_rule (x ∷ xs) more all =
    let parts : (is_in InRule x ≡ true) × (list_all (is_in InRule) xs ≡ true) = and_parts (is_in InRule x) (list_all (is_in InRule) xs) all in
    let one_more : 1 + length xs ≡ suc (length xs) = omega arith in
    ap (λ v. cond v (1 + prefix_len (is_in InRule) (xs ++ 0x5D ∷ more)) 0) parts.0 ∙ (ap (λ n. 1 + n) (all_in_rule xs more parts.1) ∙ one_more)

code_taken : (code more : List ℕ) (parts : List Part) (s : Seen) → nat_lt 0 (length code) ≡ true → list_all (is_in InRule) code ≡ true
    → fit (Rule ∷ parts) (record s { rest = code ++ 0x5D ∷ more }) ≡ fit parts (record s { rest = 0x5D ∷ more; code = Some code; numbered = false })
code_taken code more parts s some all =
    let text : List ℕ = code ++ 0x5D ∷ more in
    ap (λ n. option_and_then (fit parts) (option_map (λ (count : ℕ). with_code false count (record s { rest = text })) (some_run n))) (all_in_rule code more all)
    ∙ (ap (λ v. option_and_then (fit parts) (option_map (λ (count : ℕ). with_code false count (record s { rest = text })) (if v then Some (length code) else None))) some
    ∙ (ap (λ rest. fit parts (record s { rest = rest; code = Some (take (length code) text); numbered = false })) (drop_at code (0x5D ∷ more) (length code) refl)
    ∙ ap (λ it. fit parts (record s { rest = 0x5D ∷ more; code = Some it; numbered = false })) (take_at code (0x5D ∷ more) (length code) refl)))

-- of some rests the first that fits
said_first : (row : List Part) (manner : Manner) (more : List (List Part × Manner)) (s found : Seen) → whole row s ≡ Some found → first_whole ((row, manner) ∷ more) s ≡ Some (found, manner)
said_first row manner more s found e = ap (λ o. option_or (option_map (λ (it : Seen). (it, manner)) o) (first_whole more s)) e

said_later : (row : List Part) (manner : Manner) (more : List (List Part × Manner)) (s : Seen) → whole row s ≡ None → first_whole ((row, manner) ∷ more) s ≡ first_whole more s
said_later row manner more s e = ap (λ o. option_or (option_map (λ (it : Seen). (it, manner)) o) (first_whole more s)) e

-- the first rests of the table
abbrev code_row : List Part
code_row = ALevel ∷ (Byte 0x5B ∷ (Rule ∷ (Byte 0x5D ∷ (Byte 0x3A ∷ (Blanks ∷ (Message ∷ []))))))

abbrev spaced_row : List Part
spaced_row = Blanks ∷ (Rule ∷ (Byte 0x3A ∷ (Blanks ∷ (Message ∷ []))))

abbrev boxed_row : List Part
boxed_row = Rule ∷ (Byte 0x5D ∷ (Blanks ∷ (Message ∷ [])))

abbrev level_row : List Part
level_row = ALevel ∷ (Byte 0x3A ∷ (Blanks ∷ (Message ∷ [])))

abbrev pub all_of : Option Seen → Option Seen
all_of o = option_and_then (λ (found : Seen). if length found.rest == 0 then Some found else None) o

-- ---- without a code

abbrev pub uncoded_text : OwnSeverity → List ℕ → List ℕ
uncoded_text severity message = severity_name severity ++ 0x3A ∷ 0x20 ∷ message

abbrev pub uncoded_found : OwnSeverity → List ℕ → Seen → Seen
uncoded_found severity message s = record s { rest = []; severity = Some (severity_meant severity); aside = false; message = Some message }

pub after_level : (severity : OwnSeverity) (message : List ℕ) (parts : List Part) (s : Seen) → whole (ALevel ∷ parts) (record s { rest = uncoded_text severity message }) ≡ all_of (fit parts (leveled severity (0x3A ∷ 0x20 ∷ message) s))
after_level severity message parts s = ap all_of (level_taken severity (0x3A ∷ 0x20 ∷ message) parts s (level_before_colon severity (0x20 ∷ message)))

-- behind the blank stands no bracket
pub no_bracket_behind : (severity : OwnSeverity) (message : List ℕ) (parts : List Part) (s : Seen) → IsSayable message
    → whole (ALevel ∷ (Byte 0x3A ∷ (Blanks ∷ (Byte 0x5B ∷ parts)))) (record s { rest = uncoded_text severity message }) ≡ None
no_bracket_behind severity message parts s plain =
    after_level severity message (Byte 0x3A ∷ (Blanks ∷ (Byte 0x5B ∷ parts))) s
    ∙ (ap all_of (blank_taken message (Byte 0x5B ∷ parts) (leveled severity (0x20 ∷ message) s) plain.no_blank)
    ∙ ap (λ o. all_of (option_and_then (fit parts) o)) (no_bracket_there message (leveled severity message s) plain.no_bracket))

message_behind : (severity : OwnSeverity) (message : List ℕ) (s : Seen) → IsSayable message
    → whole (ALevel ∷ (Byte 0x3A ∷ (Blanks ∷ (Message ∷ [])))) (record s { rest = uncoded_text severity message }) ≡ Some (uncoded_found severity message s)
message_behind severity message s plain =
    after_level severity message (Byte 0x3A ∷ (Blanks ∷ (Message ∷ []))) s
    ∙ (ap all_of (blank_taken message (Message ∷ []) (leveled severity (0x20 ∷ message) s) plain.no_blank) ∙ ap all_of (message_taken_whole message (leveled severity message s) plain))

pub said_uncoded : (severity : OwnSeverity) (message : List ℕ) (s : Seen) → IsSayable message → said (record s { rest = uncoded_text severity message }) ≡ Some (uncoded_found severity message s, Plain)
unfolding rests
said_uncoded severity message s plain =
    said_later code_row Ruled (drop 1 rests) (record s { rest = uncoded_text severity message }) (after_level severity message (drop 1 code_row) s)
    ∙ (said_later (ALevel ∷ spaced_row) Ruled (drop 2 rests) (record s { rest = uncoded_text severity message }) (after_level severity message spaced_row s)
    ∙ (said_later (ALevel ∷ (Byte 0x3A ∷ (Blanks ∷ (Byte 0x5B ∷ boxed_row)))) Ruled (drop 3 rests) (record s { rest = uncoded_text severity message }) (no_bracket_behind severity message boxed_row s plain)
    ∙ said_first level_row Plain (drop 4 rests) (record s { rest = uncoded_text severity message }) (uncoded_found severity message s) (message_behind severity message s plain)))

-- ---- with a code

abbrev pub coded_text : OwnSeverity → List ℕ → List ℕ → List ℕ
coded_text severity code message = severity_name severity ++ 0x5B ∷ (code ++ 0x5D ∷ (0x3A ∷ (0x20 ∷ message)))

abbrev pub coded_found : OwnSeverity → List ℕ → List ℕ → Seen → Seen
coded_found severity code message s = record s { rest = []; severity = Some (severity_meant severity); aside = false; code = Some code; numbered = false; message = Some message }

pub bracket_behind : (severity : OwnSeverity) (code message : List ℕ) (parts : List Part) (s : Seen)
    → whole (ALevel ∷ parts) (record s { rest = coded_text severity code message }) ≡ all_of (fit parts (leveled severity (0x5B ∷ (code ++ 0x5D ∷ (0x3A ∷ (0x20 ∷ message)))) s))
bracket_behind severity code message parts s =
    ap all_of (level_taken severity (0x5B ∷ (code ++ 0x5D ∷ (0x3A ∷ (0x20 ∷ message)))) parts s (level_before_bracket severity (code ++ 0x5D ∷ (0x3A ∷ (0x20 ∷ message)))))

code_behind_level : (severity : OwnSeverity) (code message : List ℕ) (s : Seen) → IsSayable message → nat_lt 0 (length code) ≡ true → list_all (is_in InRule) code ≡ true
    → whole (ALevel ∷ (Byte 0x5B ∷ (Rule ∷ (Byte 0x5D ∷ (Byte 0x3A ∷ (Blanks ∷ (Message ∷ []))))))) (record s { rest = coded_text severity code message }) ≡ Some (coded_found severity code message s)
code_behind_level severity code message s plain some all =
    bracket_behind severity code message (Byte 0x5B ∷ (Rule ∷ (Byte 0x5D ∷ (Byte 0x3A ∷ (Blanks ∷ (Message ∷ [])))))) s
    ∙ (ap all_of (code_taken code (0x3A ∷ (0x20 ∷ message)) (Byte 0x5D ∷ (Byte 0x3A ∷ (Blanks ∷ (Message ∷ [])))) (leveled severity (code ++ 0x5D ∷ (0x3A ∷ (0x20 ∷ message))) s) some all)
    ∙ (ap all_of (blank_taken message (Message ∷ []) (record (leveled severity (0x20 ∷ message) s) { code = Some code; numbered = false }) plain.no_blank)
    ∙ ap all_of (message_taken_whole message (record (leveled severity message s) { code = Some code; numbered = false }) plain)))

pub said_coded : (severity : OwnSeverity) (code message : List ℕ) (s : Seen) → IsSayable message → nat_lt 0 (length code) ≡ true → list_all (is_in InRule) code ≡ true
    → said (record s { rest = coded_text severity code message }) ≡ Some (coded_found severity code message s, Ruled)
unfolding rests
said_coded severity code message s plain some all =
    said_first code_row Ruled (drop 1 rests) (record s { rest = coded_text severity code message }) (coded_found severity code message s) (code_behind_level severity code message s plain some all)

-- ---- what that means

trimmed_same : (text : List ℕ) → suffix_len (is_in Blank) text ≡ 0 → trimmed text ≡ text
trimmed_same text none = ap (λ n. take (length text - n) text) none ∙ take_all (length text - 0) text (omega arith)

none_there : {A : Type 0} (o : Option A) → is_none o ≡ true → o ≡ None
none_there None is = refl
none_there (Some x) is = cc

pub meant_uncoded : (severity : OwnSeverity) (message rest : List ℕ) (line column end_line end_column : ℕ) → IsSayable message → is_none (code_behind false message) ≡ true
    → meant Plain (uncoded_found severity message (places_found line column end_line end_column (before rest))) ≡ record { severity = severity_meant severity; aside = false; code = None; message = message }
meant_uncoded severity message rest line column end_line end_column plain none =
    ap (λ text. meant_with Plain (uncoded_found severity message (places_found line column end_line end_column (before rest))) text None) (trimmed_same message plain.no_last_blank)
    ∙ ap (λ o. words_with (record { severity = Some (severity_meant severity); boxed = false; message = message }) false false o) (none_there (code_behind false message) none)

pub meant_coded : (severity : OwnSeverity) (code message rest : List ℕ) (line column end_line end_column : ℕ) → IsSayable message
    → meant Ruled (coded_found severity code message (places_found line column end_line end_column (before rest))) ≡ record { severity = severity_meant severity; aside = false; code = Some code; message = message }
meant_coded severity code message rest line column end_line end_column plain =
    ap (λ text. meant_with Ruled (coded_found severity code message (places_found line column end_line end_column (before rest))) text (Some code)) (trimmed_same message plain.no_last_blank)

-- An element `error` that is written is read.
use Rattle.std.proofs.Common.{◌≡◌, ◌∙◌, ℕ, suc, ◌+◌, ◌≤◌, ◌-◌, if◌then◌else◌, List, [], ◌∷◌, ◌++◌, length, Bool, true, false, Option, Some, None, option_and_then, ap, arith, codes, decimal, refl, subst, append_assoc}
use Rattle.std.specs.Char.{encode_utf8}
use Rattle.std.specs.Str.{chars, IsUtf8}
use Rattle.std.proofs.lemmas.List.{length-append}
use Rattle.std.proofs.lemmas.Str.{IsUtf8-append}
use Rattle.json.proofs.Printed.Utf8.{are_ascii, IsUtf8-are_ascii}
use Rattle.json.specs.Json.{Json}
use Rattle.oxc_protocol.specs.declared.protocol.Severity.{Severity}
use Rattle.oxc_protocol.specs.declared.protocol.Severity.TheVariants.{Error, Warning, Advice}
use Rattle.ci_formats.specs.Finding.{FindingParts}
use Rattle.ci_formats.specs.Checkstyle.{error_element, place_attributes, severity_word, source_attribute}
use Rattle.ci_formats.specs.Files.{or_zero}
use Rattle.ci_formats.specs.Xml.{attribute, held, number_attribute, shown}
use Rattle.xml_values.specs.Element.{child_step, content_step, element, may_hold, passed, section, started, Parts, Reading, with_child}
use Rattle.xml_values.specs.Tag.{Attribute, attributes}
use Rattle.finding_laws.specs.Checkstyle.Value.{error_value}
use Rattle.finding_laws.proofs.CheckstyleLemmas.Attribute.{attribute_longer, attribute_then, attributes_on, attributes_slash, IsKey, IsValue, spelled_out}
use Rattle.finding_laws.proofs.CheckstyleLemmas.Children.{AreChildren}
use Rattle.finding_laws.proofs.CheckstyleLemmas.Char.{is_quiet, shown_quiet}
use Rattle.finding_laws.proofs.CheckstyleLemmas.Utf8.{ascii_on, HasTexts, decimal_utf8, shown_utf8, source_utf8}
use Rattle.finding_laws.proofs.CheckstyleLemmas.Quiet.{decimal_quiet, source_quiet}
use Rattle.finding_laws.proofs.CheckstyleLemmas.Value.{decimal_value, shown_value}

-- ---- as it is written

abbrev spelled : List ℕ → List ℕ → List ℕ
spelled key value = codes " " ++ key ++ codes "=\"" ++ value ++ codes "\""

six_joined : (a b c d e z rest : List ℕ) → (a ++ b ++ c ++ d ++ e ++ z) ++ rest ≡ a ++ (b ++ (c ++ (d ++ (e ++ (z ++ rest)))))
six_joined a b c d e z rest =
    append_assoc (a ++ b ++ c ++ d ++ e) z rest
    ∙ (append_assoc (a ++ b ++ c ++ d) e (z ++ rest)
    ∙ (append_assoc (a ++ b ++ c) d (e ++ (z ++ rest)) ∙ (append_assoc (a ++ b) c (d ++ (e ++ (z ++ rest))) ∙ append_assoc a b (c ++ (d ++ (e ++ (z ++ rest)))))))

-- what stands behind the `<` of an element
abbrev with_parts : (line column severity message source rest : List ℕ) → List ℕ
with_parts line column severity message source rest =
    codes "error" ++ attribute_then (codes "line") line (attribute_then (codes "column") column (attribute_then (codes "severity") severity (attribute_then (codes "message") message (source ++ rest))))

parts_written : (line column severity message source rest : List ℕ)
    → (codes "<error" ++ (spelled (codes "line") line ++ spelled (codes "column") column) ++ spelled (codes "severity") severity ++ spelled (codes "message") message ++ source ++ codes "/>\n") ++ rest
    ≡ 0x3C ∷ with_parts line column severity message source (0x2F ∷ 0x3E ∷ 0x0A ∷ rest)
parts_written line column severity message source rest =
    let end : List ℕ = source ++ 0x2F ∷ 0x3E ∷ 0x0A ∷ rest in
    let m : List ℕ = attribute_then (codes "message") message end in
    let s : List ℕ = attribute_then (codes "severity") severity m in
    let c : List ℕ = attribute_then (codes "column") column s in
    let place : List ℕ = spelled (codes "line") line ++ spelled (codes "column") column in
    six_joined (codes "<error") place (spelled (codes "severity") severity) (spelled (codes "message") message) source (codes "/>\n") rest
    ∙ (ap (λ t. codes "<error" ++ (place ++ (spelled (codes "severity") severity ++ t))) (spelled_out (codes "message") message end)
    ∙ (ap (λ t. codes "<error" ++ (place ++ t)) (spelled_out (codes "severity") severity m)
    ∙ (ap (λ t. codes "<error" ++ t) (append_assoc (spelled (codes "line") line) (spelled (codes "column") column) s)
    ∙ (ap (λ t. codes "<error" ++ (spelled (codes "line") line ++ t)) (spelled_out (codes "column") column s) ∙ ap (λ t. codes "<error" ++ t) (spelled_out (codes "line") line c)))))

pub error_then : FindingParts → List ℕ → List ℕ
error_then f rest = with_parts (decimal (or_zero f.start.row)) (decimal (or_zero f.start.column)) (shown (severity_word f.severity)) (shown f.message) (source_attribute f.code) (0x2F ∷ 0x3E ∷ rest)

pub error_written : (f : FindingParts) (rest : List ℕ) → error_element f ++ rest ≡ 0x3C ∷ error_then f (0x0A ∷ rest)
unfolding error_element place_attributes attribute number_attribute error_then
error_written f rest = parts_written (decimal (or_zero f.start.row)) (decimal (or_zero f.start.column)) (shown (severity_word f.severity)) (shown f.message) (source_attribute f.code) rest

error_longer : (f : FindingParts) (rest : List ℕ) → length rest ≤ length (error_then f rest)
unfolding error_then
error_longer f rest =
    let end : List ℕ = source_attribute f.code ++ 0x2F ∷ 0x3E ∷ rest in
    let m : List ℕ = attribute_then (codes "message") (shown f.message) end in
    let s : List ℕ = attribute_then (codes "severity") (shown (severity_word f.severity)) m in
    let c : List ℕ = attribute_then (codes "column") (decimal (or_zero f.start.column)) s in
    omega (
      arith,
      length-append (source_attribute f.code) (0x2F ∷ 0x3E ∷ rest),
      attribute_longer (codes "message") (shown f.message) end,
      attribute_longer (codes "severity") (shown (severity_word f.severity)) m,
      attribute_longer (codes "column") (decimal (or_zero f.start.column)) s,
      attribute_longer (codes "line") (decimal (or_zero f.start.row)) c,
    )

pub error_quiet : (f : FindingParts) (rest : List ℕ) → is_quiet rest → is_quiet (0x3C ∷ error_then f rest)
unfolding error_then
error_quiet f rest quiet =
    let end : List ℕ = source_attribute f.code ++ 0x2F ∷ 0x3E ∷ rest in
    let m : List ℕ = attribute_then (codes "message") (shown f.message) end in
    let s : List ℕ = attribute_then (codes "severity") (shown (severity_word f.severity)) m in
    let c : List ℕ = attribute_then (codes "column") (decimal (or_zero f.start.column)) s in
    decimal_quiet (or_zero f.start.row) (0x22 ∷ c) (decimal_quiet (or_zero f.start.column) (0x22 ∷ s)
    (shown_quiet (severity_word f.severity) (0x22 ∷ m) (shown_quiet f.message (0x22 ∷ end) (source_quiet f.code (0x2F ∷ 0x3E ∷ rest) quiet))))

word_ascii : (severity : Severity) → are_ascii (severity_word severity) ≡ true
word_ascii Error = refl
word_ascii Warning = refl
word_ascii Advice = refl

pub error_utf8 : (f : FindingParts) (rest : List ℕ) → HasTexts f → IsUtf8 rest → IsUtf8 (0x3C ∷ error_then f rest)
unfolding error_then
error_utf8 f rest own utf8 =
    let line : ℕ = or_zero f.start.row in
    let column : ℕ = or_zero f.start.column in
    let word : List ℕ = shown (severity_word f.severity) in
    let end : List ℕ = source_attribute f.code ++ 0x2F ∷ 0x3E ∷ rest in
    let m : List ℕ = attribute_then (codes "message") (shown f.message) end in
    let s : List ℕ = attribute_then (codes "severity") word m in
    let c : List ℕ = attribute_then (codes "column") (decimal column) s in
    let ended : IsUtf8 (0x22 ∷ end) = ascii_on (codes "\"") end refl (source_utf8 f.code (0x2F ∷ 0x3E ∷ rest) own.code (ascii_on (codes "/>") rest refl utf8)) in
    let said : IsUtf8 (0x22 ∷ m) = ascii_on (codes "\" message=\"") (shown f.message ++ 0x22 ∷ end) refl (IsUtf8-append (shown f.message) (0x22 ∷ end) (shown_utf8 f.message own.message) ended) in
    let judged : IsUtf8 (0x22 ∷ s) = ascii_on (codes "\" severity=\"") (word ++ 0x22 ∷ m) refl (IsUtf8-append word (0x22 ∷ m) (shown_utf8 (severity_word f.severity) (IsUtf8-are_ascii (severity_word f.severity) (word_ascii f.severity))) said) in
    let placed : IsUtf8 (0x22 ∷ c) = ascii_on (codes "\" column=\"") (decimal column ++ 0x22 ∷ s) refl (decimal_utf8 column (0x22 ∷ s) judged) in
    ascii_on (codes "<error line=\"") (decimal line ++ 0x22 ∷ c) refl (decimal_utf8 line (0x22 ∷ c) placed)

-- ---- as it is read

line_key : IsKey (codes "line")
unfolding attributes
line_key = record { names = λ rest. refl; turns = λ n earlier rest. refl }

column_key : IsKey (codes "column")
unfolding attributes
column_key = record { names = λ rest. refl; turns = λ n earlier rest. refl }

severity_key : IsKey (codes "severity")
unfolding attributes
severity_key = record { names = λ rest. refl; turns = λ n earlier rest. refl }

message_key : IsKey (codes "message")
unfolding attributes
message_key = record { names = λ rest. refl; turns = λ n earlier rest. refl }

source_key : IsKey (codes "source")
unfolding attributes
source_key = record { names = λ rest. refl; turns = λ n earlier rest. refl }

pub held_word : (severity : Severity) → held (severity_word severity) ≡ severity_word severity
unfolding held chars encode_utf8
held_word Error = refl
held_word Warning = refl
held_word Advice = refl

word_value : (severity : Severity) → IsValue (shown (severity_word severity)) (severity_word severity)
word_value severity = subst (λ read. IsValue (shown (severity_word severity)) read) (held_word severity) (shown_value (severity_word severity))

abbrev four : List ℕ → List ℕ → List ℕ → List ℕ → List Attribute
four line column severity message = (codes "line", line) ∷ (codes "column", column) ∷ (codes "severity", severity) ∷ (codes "message", message) ∷ []

abbrev source_list : Option (List ℕ) → List Attribute
source_list None = []
source_list (Some code) = (codes "source", held code) ∷ []

abbrev attributes_in : FindingParts → List Attribute
attributes_in f = four (decimal (or_zero f.start.row)) (decimal (or_zero f.start.column)) (severity_word f.severity) (held f.message) ++ source_list f.code

source_read : (n : ℕ) (line column severity message : List ℕ) (code : Option (List ℕ)) (rest : List ℕ)
    → attributes (suc (suc n)) (four line column severity message) (source_attribute code ++ 0x2F ∷ rest) ≡ Some (four line column severity message ++ source_list code, 0x2F ∷ rest)
unfolding attribute
source_read n line column severity message None rest = attributes_slash (suc n) (four line column severity message) rest
source_read n line column severity message (Some code) rest =
    ap (attributes (suc (suc n)) (four line column severity message)) (spelled_out (codes "source") (shown code) (0x2F ∷ rest))
    ∙ (attributes_on (suc n) (four line column severity message) (codes "source") (shown code) (held code) (0x2F ∷ rest) source_key (shown_value code) refl
    ∙ attributes_slash n (four line column severity message ++ (codes "source", held code) ∷ []) rest)

abbrev tag_then : FindingParts → List ℕ → List ℕ
tag_then f rest =
    attribute_then (codes "line") (decimal (or_zero f.start.row)) (attribute_then (codes "column") (decimal (or_zero f.start.column))
    (attribute_then (codes "severity") (shown (severity_word f.severity)) (attribute_then (codes "message") (shown f.message) (source_attribute f.code ++ 0x2F ∷ rest))))

tag_read : (n : ℕ) (f : FindingParts) (rest : List ℕ) → attributes (suc (suc (suc (suc (suc (suc n)))))) [] (tag_then f rest) ≡ Some (attributes_in f, 0x2F ∷ rest)
tag_read n f rest =
    let line : List ℕ = decimal (or_zero f.start.row) in
    let column : List ℕ = decimal (or_zero f.start.column) in
    let word : List ℕ = severity_word f.severity in
    let end : List ℕ = source_attribute f.code ++ 0x2F ∷ rest in
    let m : List ℕ = attribute_then (codes "message") (shown f.message) end in
    let s : List ℕ = attribute_then (codes "severity") (shown word) m in
    let c : List ℕ = attribute_then (codes "column") column s in
    attributes_on (suc (suc (suc (suc (suc n))))) [] (codes "line") line line c line_key (decimal_value (or_zero f.start.row)) refl
    ∙ (attributes_on (suc (suc (suc (suc n)))) ((codes "line", line) ∷ []) (codes "column") column column s column_key (decimal_value (or_zero f.start.column)) refl
    ∙ (attributes_on (suc (suc (suc n))) ((codes "line", line) ∷ (codes "column", column) ∷ []) (codes "severity") (shown word) word m severity_key (word_value f.severity) refl
    ∙ (attributes_on (suc (suc n)) ((codes "line", line) ∷ (codes "column", column) ∷ (codes "severity", word) ∷ []) (codes "message") (shown f.message) (held f.message) end message_key (shown_value f.message) refl
    ∙ source_read n line column word (held f.message) f.code rest)))

-- the turns that a tag has are enough
six_turns : (f : FindingParts) (rest : List ℕ) → (n : ℕ) × (length (tag_then f rest) + 1 ≡ suc (suc (suc (suc (suc (suc n))))))
six_turns f rest = (length (tag_then f rest) - 5, omega arith)

-- an element of this name after its attributes
unfoldable pub started_as : List ℕ → Reading → Option (List Attribute × List ℕ) → Option ((List ℕ × Json) × List ℕ)
started_as name el read = option_and_then (started el name) read

-- an element without content
empty_read : (el : Reading) (f : FindingParts) (code : Option (List ℕ)) (rest : List ℕ) → f.code ≡ code
    → started el (codes "error") (attributes_in f, 0x2F ∷ 0x3E ∷ rest) ≡ Some ((codes "error", error_value f), rest)
unfolding error_value
empty_read el f None rest is = rw is refl
empty_read el f (Some code) rest is = rw is refl

pub error_read : (depth : ℕ) (f : FindingParts) (rest : List ℕ) → element (suc depth) (error_then f rest) ≡ Some ((codes "error", error_value f), rest)
unfolding element error_then started_as
error_read depth f rest =
    let turns = six_turns f (0x3E ∷ rest) in
    ap (λ n. started_as (codes "error") (element depth) (attributes n [] (tag_then f (0x3E ∷ rest)))) turns.1
    ∙ (ap (started_as (codes "error") (element depth)) (tag_read turns.0 f (0x3E ∷ rest)) ∙ empty_read (element depth) f f.code rest refl)

unfoldable pub child_if : Parts → List ℕ × Json → List ℕ → Bool → Option (Bool × Parts × List ℕ)
child_if parts it rest may = if may then Some (false, with_child parts it, rest) else None

error_step : (depth : ℕ) (f : FindingParts) (parts : Parts) (rest : List ℕ) → may_hold parts (codes "error") ≡ true
    → content_step (element (suc depth)) parts (0x3C ∷ error_then f rest) ≡ Some (false, with_child parts (codes "error", error_value f), rest)
unfolding content_step passed section error_then child_if
error_step depth f parts rest may = ap (child_step parts) (error_read depth f rest) ∙ ap (child_if parts (codes "error", error_value f) rest) may

pub errors_are : (depth : ℕ) → AreChildren (element (suc depth)) (codes "error") error_then error_value
errors_are depth = record { step = error_step depth; longer = error_longer }

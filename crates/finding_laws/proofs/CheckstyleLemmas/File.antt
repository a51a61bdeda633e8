-- An element `file` that is written is read.
use Rattle.std.proofs.Common.{◌≡◌, ◌∙◌, ℕ, suc, ◌+◌, ◌-◌, ◌≤◌, List, [], ◌∷◌, ◌++◌, length, map, filter, true, false, Option, Some, option_and_then, ap, arith, codes, refl, append_assoc}
use Rattle.std.specs.List.{flat_map}
use Rattle.std.specs.Str.{IsUtf8}
use Rattle.std.proofs.lemmas.Str.{IsUtf8-append}
use Rattle.json.specs.Json.{Json}
use Rattle.ci_formats.specs.Finding.{FindingParts}
use Rattle.ci_formats.specs.Checkstyle as checkstyle
use Rattle.ci_formats.specs.Checkstyle.{error_element}
use Rattle.ci_formats.specs.Files.{is_on}
use Rattle.ci_formats.specs.Xml.{attribute, held, shown}
use Rattle.xml_values.specs.Element.{child_step, content_step, element, element_json, ended, may_hold, passed, section, Parts, with_child}
use Rattle.xml_values.specs.Tag.{Attribute, attributes}
use Rattle.finding_laws.specs.Checkstyle.Value as value
use Rattle.finding_laws.specs.Checkstyle.Value.{error_value, file_value}
use Rattle.finding_laws.proofs.SharedLemmas.{ByRecursion}
use Rattle.finding_laws.proofs.CheckstyleLemmas.Attribute.{attribute_longer, attribute_then, attributes_closed, attributes_on, IsKey, spelled_out}
use Rattle.finding_laws.proofs.CheckstyleLemmas.Children.{AreChildren, names_for, parts_of, rows_back, rows_then}
use Rattle.finding_laws.proofs.CheckstyleLemmas.Error.{child_if, error_quiet, error_then, error_utf8, error_written, errors_are, started_as}
use Rattle.finding_laws.proofs.CheckstyleLemmas.Blank.{AreApart, children_value}
use Rattle.finding_laws.proofs.CheckstyleLemmas.Char.{is_quiet, shown_quiet}
use Rattle.finding_laws.proofs.CheckstyleLemmas.Utf8.{ascii_on, HasTexts, rows_utf8, shown_utf8}
use Rattle.finding_laws.proofs.CheckstyleLemmas.Quiet.{rows_quiet}
use Rattle.finding_laws.proofs.CheckstyleLemmas.Value.{shown_value}

-- ---- as it is written

pub errors_written : (own : List FindingParts) (rest : List ℕ) → flat_map error_element own ++ rest ≡ rows_then error_then own rest
errors_written [] rest = refl
errors_written (f ∷ own) rest =
    append_assoc (error_element f) (flat_map error_element own) rest
    ∙ (error_written f (flat_map error_element own ++ rest) ∙ ap (λ t. 0x3C ∷ error_then f (0x0A ∷ t)) (errors_written own rest))

-- what stands behind the `<` of an element
pub file_then : List ℕ → List FindingParts → List ℕ → List ℕ
file_then name own rest = codes "file" ++ attribute_then (codes "name") (shown name) (0x3E ∷ 0x0A ∷ rows_then error_then own (0x3C ∷ 0x2F ∷ (codes "file>" ++ rest)))

five_joined : (a b c d e rest : List ℕ) → (a ++ b ++ c ++ d ++ e) ++ rest ≡ a ++ (b ++ (c ++ (d ++ (e ++ rest))))
five_joined a b c d e rest =
    append_assoc (a ++ b ++ c ++ d) e rest ∙ (append_assoc (a ++ b ++ c) d (e ++ rest) ∙ (append_assoc (a ++ b) c (d ++ (e ++ rest)) ∙ append_assoc a b (c ++ (d ++ (e ++ rest)))))

pub file_written : (name : List ℕ) (own : List FindingParts) (rest : List ℕ) → checkstyle.file_with name own ++ rest ≡ 0x3C ∷ file_then name own (0x0A ∷ rest)
unfolding checkstyle.file_with attribute file_then
file_written name own rest =
    five_joined (codes "<file") (attribute (codes "name") name) (codes ">\n") (flat_map error_element own) (codes "</file>\n") rest
    ∙ (ap (λ t. codes "<file" ++ (attribute (codes "name") name ++ (0x3E ∷ 0x0A ∷ t))) (errors_written own (codes "</file>\n" ++ rest))
    ∙ ap (λ t. codes "<file" ++ t) (spelled_out (codes "name") (shown name) (0x3E ∷ 0x0A ∷ rows_then error_then own (codes "</file>\n" ++ rest))))

pub file_quiet : (name : List ℕ) (own : List FindingParts) (rest : List ℕ) → is_quiet rest → is_quiet (0x3C ∷ file_then name own rest)
unfolding file_then
file_quiet name own rest quiet =
    let end : List ℕ = 0x3C ∷ 0x2F ∷ (codes "file>" ++ rest) in
    shown_quiet name (0x22 ∷ 0x3E ∷ 0x0A ∷ rows_then error_then own end) (rows_quiet error_then error_quiet own end quiet)

-- the texts of an element
pub record HasOwn (name : List ℕ) (own : List FindingParts) : Type 0 where
  pub of_name : IsUtf8 name
  pub of_own : ByRecursion HasTexts own

pub file_utf8 : (name : List ℕ) (own : List FindingParts) (rest : List ℕ) → HasOwn name own → IsUtf8 rest → IsUtf8 (0x3C ∷ file_then name own rest)
unfolding file_then
file_utf8 name own rest has utf8 =
    let end : List ℕ = 0x3C ∷ 0x2F ∷ (codes "file>" ++ rest) in
    let rows : List ℕ = rows_then error_then own end in
    let inner : IsUtf8 rows = rows_utf8 error_then HasTexts error_utf8 own end has.of_own (ascii_on (codes "</file>") rest refl utf8) in
    ascii_on (codes "<file name=\"") (shown name ++ 0x22 ∷ 0x3E ∷ 0x0A ∷ rows) refl (IsUtf8-append (shown name) (0x22 ∷ 0x3E ∷ 0x0A ∷ rows) (shown_utf8 name has.of_name) (ascii_on (codes "\">\n") rows refl inner))

-- ---- as it is read

name_key : IsKey (codes "name")
unfolding attributes
name_key = record { names = λ rest. refl; turns = λ n earlier rest. refl }

errors_apart : AreApart (codes "error") (codes "name")
errors_apart = record { keeps = λ value children. refl; only = λ text. refl }

two_turns : (name rest : List ℕ) → (n : ℕ) × (length (attribute_then (codes "name") (shown name) rest) + 1 ≡ suc (suc n))
two_turns name rest = (length (attribute_then (codes "name") (shown name) rest) - 1, omega arith)

name_read : (n : ℕ) (name rest : List ℕ) → attributes (suc (suc n)) [] (attribute_then (codes "name") (shown name) (0x3E ∷ rest)) ≡ Some ((codes "name", held name) ∷ [], 0x3E ∷ rest)
name_read n name rest =
    attributes_on (suc n) [] (codes "name") (shown name) (held name) (0x3E ∷ rest) name_key (shown_value name) refl ∙ attributes_closed n ((codes "name", held name) ∷ []) rest

unfoldable pub ended_by : List ℕ → Option (Parts × List ℕ) → Option ((List ℕ × Json) × List ℕ)
ended_by name read = option_and_then (ended name) read

closed_as : (name own : List ℕ) (names : List (List ℕ)) (children : List (List ℕ × Json)) (rest : List ℕ)
    → ended_by (codes "file") (Some (parts_of ((codes "name", held name) ∷ []) names children own, codes "file>" ++ rest)) ≡ Some ((codes "file", element_json (parts_of ((codes "name", held name) ∷ []) names children own)), rest)
unfolding ended_by
closed_as name own names children rest = refl

pub file_read : (depth : ℕ) (name : List ℕ) (own : List FindingParts) (rest : List ℕ) → element (suc (suc depth)) (file_then name own rest) ≡ Some ((codes "file", value.file_with name own), rest)
unfolding element file_then started_as ended_by value.file_with
file_read depth name own rest =
    let rows : List ℕ = 0x0A ∷ rows_then error_then own (0x3C ∷ 0x2F ∷ (codes "file>" ++ rest)) in
    let turns = two_turns name (0x3E ∷ rows) in
    let attrs : List Attribute = (codes "name", held name) ∷ [] in
    let back = rows_back (element (suc depth)) (codes "error") error_then error_value (errors_are depth) refl own (length rows + 1) attrs (codes "file>" ++ rest) (omega arith) in
    ap (λ n. started_as (codes "file") (element (suc depth)) (attributes n [] (attribute_then (codes "name") (shown name) (0x3E ∷ rows)))) turns.1
    ∙ (ap (started_as (codes "file") (element (suc depth))) (name_read turns.0 name rows)
    ∙ (ap (ended_by (codes "file")) back.2
    ∙ (closed_as name back.0 (names_for (codes "error") own) (map (λ f. (codes "error", error_value f)) own) rest
    ∙ ap (λ v. Some ((codes "file", v), rest)) (children_value (codes "error") (codes "name") (held name) error_value errors_apart own back.0 back.1))))

abbrev pub own_then : List FindingParts → List ℕ → List ℕ → List ℕ
own_then findings name rest = file_then name (filter (is_on name) findings) rest

file_step : (depth : ℕ) (findings : List FindingParts) (name : List ℕ) (parts : Parts) (rest : List ℕ) → may_hold parts (codes "file") ≡ true
    → content_step (element (suc (suc depth))) parts (0x3C ∷ own_then findings name rest) ≡ Some (false, with_child parts (codes "file", file_value findings name), rest)
unfolding content_step passed section file_then child_if
file_step depth findings name parts rest may =
    ap (child_step parts) (file_read depth name (filter (is_on name) findings) rest) ∙ ap (child_if parts (codes "file", file_value findings name) rest) may

rows_longer : (own : List FindingParts) (end : List ℕ) → length end ≤ length (rows_then error_then own end)
rows_longer [] end = omega arith
rows_longer (f ∷ own) end = omega (arith, rows_longer own end, (errors_are 0).longer f (0x0A ∷ rows_then error_then own end))

file_longer : (findings : List FindingParts) (name rest : List ℕ) → length rest ≤ length (own_then findings name rest)
unfolding file_then
file_longer findings name rest =
    let own : List FindingParts = filter (is_on name) findings in
    let rows : List ℕ = 0x3E ∷ 0x0A ∷ rows_then error_then own (0x3C ∷ 0x2F ∷ (codes "file>" ++ rest)) in
    omega (arith, attribute_longer (codes "name") (shown name) rows, rows_longer own (0x3C ∷ 0x2F ∷ (codes "file>" ++ rest)))

pub files_are : (depth : ℕ) (findings : List FindingParts) → AreChildren (element (suc (suc depth))) (codes "file") (own_then findings) (file_value findings)
files_are depth findings = record { step = file_step depth findings; longer = file_longer findings }

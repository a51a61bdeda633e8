-- The document that is written is read.
use Rattle.std.proofs.Common.{◌≡◌, ◌∙◌, ℕ, suc, ◌+◌, ◌-◌, ◌&&◌, not, if◌then◌else◌, List, [], ◌∷◌, ◌++◌, length, map, filter, Bool, true, false, Option, Some, None, is_some, option_and_then, ap, ap₂, arith, codes, refl, append_assoc, cond}
use Rattle.std.specs.List.{flat_map}
use Rattle.std.specs.Str.{IsUtf8}
use Rattle.std.proofs.lemmas.Str.{is_utf8-from_IsUtf8}
use Rattle.json.proofs.Printed.Utf8.{IsUtf8-are_ascii}
use Rattle.json.specs.Json.{Json, object, string, member, no_members}
use Rattle.ci_formats.specs.Finding.{FindingParts}
use Rattle.ci_formats.specs.Checkstyle.{checkstyle_of, file_element}
use Rattle.ci_formats.specs.Files.{is_on, names_of}
use Rattle.ci_formats.specs.Xml.{xml_head}
use Rattle.xml_values.specs.Document.{body, encoding, from_no_char, if_ended, is_utf8_name, max_depth, past_misc, skipped, value_of, value_of_body, value_of_text}
use Rattle.xml_values.specs.Element.{element, element_json, passed, Reading}
use Rattle.xml_values.specs.Marks.{after}
use Rattle.xml_values.specs.Tag.{attributes}
use Rattle.xml_values.specs.Text.{read_after}
use Rattle.finding_laws.specs.Checkstyle.Value.{checkstyle_value, file_value, some_under}
use Rattle.finding_laws.proofs.SharedLemmas.{ByRecursion}
use Rattle.finding_laws.proofs.CheckstyleLemmas.Attribute.{attribute_then, attributes_closed, attributes_on, IsKey, IsValue}
use Rattle.finding_laws.proofs.CheckstyleLemmas.Blank.{AreApart, children_value}
use Rattle.finding_laws.proofs.CheckstyleLemmas.Children.{names_for, parts_of, rows_back, rows_then}
use Rattle.finding_laws.proofs.CheckstyleLemmas.Char.{is_quiet}
use Rattle.finding_laws.proofs.CheckstyleLemmas.Utf8.{ascii_on, HasTexts, rows_utf8}
use Rattle.finding_laws.proofs.CheckstyleLemmas.Quiet.{rows_quiet}
use Rattle.finding_laws.proofs.CheckstyleLemmas.Error.{started_as}
use Rattle.finding_laws.proofs.CheckstyleLemmas.File.{ended_by, file_quiet, file_utf8, file_written, files_are, HasOwn, own_then}

-- ---- as it is written

files_written : (findings : List FindingParts) (names : List (List ℕ)) (rest : List ℕ) → flat_map (file_element findings) names ++ rest ≡ rows_then (own_then findings) names rest
files_written findings [] rest = refl
files_written findings (name ∷ names) rest =
    append_assoc (file_element findings name) (flat_map (file_element findings) names) rest
    ∙ (file_written name (filter (is_on name) findings) (flat_map (file_element findings) names ++ rest) ∙ ap (λ t. 0x3C ∷ own_then findings name (0x0A ∷ t)) (files_written findings names rest))

abbrev rows_of : List FindingParts → List ℕ → List ℕ
rows_of findings rest = rows_then (own_then findings) (names_of findings) (0x3C ∷ 0x2F ∷ (codes "checkstyle>" ++ rest))

-- what stands behind the `<` of the element
root_then : List FindingParts → List ℕ → List ℕ
root_then findings rest = codes "checkstyle" ++ attribute_then (codes "version") (codes "4.3") (0x3E ∷ 0x0A ∷ rows_of findings rest)

text_written : (findings : List FindingParts) → checkstyle_of findings ≡ xml_head ++ (0x3C ∷ root_then findings (0x0A ∷ []))
unfolding checkstyle_of root_then
text_written findings =
    append_assoc (xml_head ++ codes "<checkstyle version=\"4.3\">\n") (flat_map (file_element findings) (names_of findings)) (codes "</checkstyle>\n")
    ∙ ap (λ t. xml_head ++ codes "<checkstyle version=\"4.3\">\n" ++ t) (files_written findings (names_of findings) (codes "</checkstyle>\n"))

-- ---- as it is read

version_key : IsKey (codes "version")
unfolding attributes
version_key = record { names = λ rest. refl; turns = λ n earlier rest. refl }

version_value : IsValue (codes "4.3") (codes "4.3")
unfolding read_after
version_value = record { no_quote = refl; no_tag = refl; back = refl }

files_apart : AreApart (codes "file") (codes "version")
files_apart = record { keeps = λ value children. refl; only = λ text. refl }

abbrev tag_then : List ℕ → List ℕ
tag_then rest = attribute_then (codes "version") (codes "4.3") rest

two_turns : (rest : List ℕ) → (n : ℕ) × (length (tag_then rest) + 1 ≡ suc (suc n))
two_turns rest = (length (tag_then rest) - 1, omega arith)

version_read : (n : ℕ) (rest : List ℕ) → attributes (suc (suc n)) [] (tag_then (0x3E ∷ rest)) ≡ Some ((codes "version", codes "4.3") ∷ [], 0x3E ∷ rest)
version_read n rest =
    attributes_on (suc n) [] (codes "version") (codes "4.3") (codes "4.3") (0x3E ∷ rest) version_key version_value refl ∙ attributes_closed n ((codes "version", codes "4.3") ∷ []) rest

closed_as : (own : List ℕ) (names : List (List ℕ)) (children : List (List ℕ × Json)) (rest : List ℕ)
    → ended_by (codes "checkstyle") (Some (parts_of ((codes "version", codes "4.3") ∷ []) names children own, codes "checkstyle>" ++ rest))
    ≡ Some ((codes "checkstyle", element_json (parts_of ((codes "version", codes "4.3") ∷ []) names children own)), rest)
unfolding ended_by
closed_as own names children rest = refl

abbrev root_value : List FindingParts → Json
root_value findings = object (member (codes "version") (string (codes "4.3")) (some_under (codes "file") (map (file_value findings) (names_of findings))))

root_read : (depth : ℕ) (findings : List FindingParts) (rest : List ℕ) → element (suc (suc (suc depth))) (root_then findings rest) ≡ Some ((codes "checkstyle", root_value findings), rest)
unfolding element root_then started_as ended_by
root_read depth findings rest =
    let rows : List ℕ = 0x0A ∷ rows_of findings rest in
    let turns = two_turns (0x3E ∷ rows) in
    let el : Reading = element (suc (suc depth)) in
    let back = rows_back el (codes "file") (own_then findings) (file_value findings) (files_are depth findings) refl (names_of findings) (length rows + 1) ((codes "version", codes "4.3") ∷ []) (codes "checkstyle>" ++ rest) (omega arith) in
    ap (λ n. started_as (codes "checkstyle") el (attributes n [] (tag_then (0x3E ∷ rows)))) turns.1
    ∙ (ap (started_as (codes "checkstyle") el) (version_read turns.0 rows)
    ∙ (ap (ended_by (codes "checkstyle")) back.2
    ∙ (closed_as back.0 (names_for (codes "file") (names_of findings)) (map (λ name. (codes "file", file_value findings name)) (names_of findings)) rest
    ∙ ap (λ v. Some ((codes "checkstyle", v), rest)) (children_value (codes "file") (codes "version") (codes "4.3") (file_value findings) files_apart (names_of findings) back.0 back.1))))

-- ---- the document

abbrev whole : List FindingParts → List ℕ
whole findings = xml_head ++ (0x3C ∷ root_then findings (0x0A ∷ []))

head_skipped : (n : ℕ) (findings : List FindingParts) (rest : List ℕ) → skipped (suc (suc n)) (xml_head ++ (0x3C ∷ root_then findings rest)) ≡ 0x3C ∷ root_then findings rest
unfolding skipped passed root_then
head_skipped n findings rest = refl

misc_turns : (rest : List ℕ) → (n : ℕ) × (length (xml_head ++ rest) + 1 ≡ suc (suc n))
misc_turns rest = (length (xml_head ++ rest) - 1, omega arith)

misc_past : (findings : List FindingParts) → past_misc (whole findings) ≡ 0x3C ∷ root_then findings (0x0A ∷ [])
misc_past findings =
    let turns = misc_turns (0x3C ∷ root_then findings (0x0A ∷ [])) in
    ap (λ n. skipped n (whole findings)) turns.1 ∙ head_skipped turns.0 findings (0x0A ∷ [])

abbrev from_start : List ℕ → Option Json
from_start text = option_and_then if_ended (option_and_then (element max_depth) (after (codes "<") text))

end_reached : (value : Json) → option_and_then if_ended (Some ((codes "checkstyle", value), 0x0A ∷ [])) ≡ Some (object (member (codes "checkstyle") value no_members))
unfolding skipped passed
end_reached value = refl

text_read : (findings : List FindingParts) → value_of_text (whole findings) ≡ Some (checkstyle_value findings)
unfolding checkstyle_value
text_read findings =
    ap from_start (misc_past findings) ∙ (ap (option_and_then if_ended) (root_read 124 findings (0x0A ∷ [])) ∙ end_reached (root_value findings))

says_utf8 : (rest : List ℕ) → is_utf8_name (encoding (xml_head ++ rest)) ≡ true
says_utf8 rest = refl

if_xml : List ℕ → Option (List ℕ) → Bool → Option Json
if_xml text bad named = if not (is_some bad) && named then value_of_text text else None

if_utf8 : List ℕ → Bool → Option Json
if_utf8 bytes is = if is then value_of_body (body bytes) else None

-- a text of characters that XML can hold is read
whole_read : (findings : List FindingParts) → IsUtf8 (whole findings) → from_no_char (whole findings) ≡ None → value_of (whole findings) ≡ Some (checkstyle_value findings)
unfolding value_of if_xml if_utf8
whole_read findings utf8 quiet =
    ap (if_utf8 (whole findings)) (is_utf8-from_IsUtf8 (whole findings) utf8)
    ∙ (ap₂ (if_xml (whole findings)) quiet (says_utf8 (0x3C ∷ root_then findings (0x0A ∷ []))) ∙ text_read findings)

whole_quiet : (findings : List FindingParts) → is_quiet (whole findings)
unfolding root_then
whole_quiet findings =
    rows_quiet (own_then findings) (λ name rest quiet. file_quiet name (filter (is_on name) findings) rest quiet) (names_of findings) (0x3C ∷ 0x2F ∷ (codes "checkstyle>" ++ 0x0A ∷ [])) refl

-- ---- its texts

kept_texts : (f : FindingParts) (findings : List FindingParts) (keeps : Bool) → HasTexts f → ByRecursion HasTexts findings → ByRecursion HasTexts (cond keeps (f ∷ findings) findings)
kept_texts f findings true one all = (one, all)
kept_texts f findings false one all = all

own_texts : (test : FindingParts → Bool) (findings : List FindingParts) → ByRecursion HasTexts findings → ByRecursion HasTexts (filter test findings)
own_texts test [] all = tt
own_texts test (f ∷ findings) all = kept_texts f (filter test findings) (test f) all.0 (own_texts test findings all.1)

kept_names : (Fits : List ℕ → Type 0) (name : List ℕ) (names : List (List ℕ)) (keeps : Bool) → Fits name → ByRecursion Fits names → ByRecursion Fits (cond keeps (name ∷ names) names)
kept_names Fits name names true one all = (one, all)
kept_names Fits name names false one all = all

names_kept : (Fits : List ℕ → Type 0) (test : List ℕ → Bool) (names : List (List ℕ)) → ByRecursion Fits names → ByRecursion Fits (filter test names)
names_kept Fits test [] all = tt
names_kept Fits test (name ∷ names) all = kept_names Fits name (filter test names) (test name) all.0 (names_kept Fits test names all.1)

names_utf8 : (findings : List FindingParts) → ByRecursion HasTexts findings → ByRecursion IsUtf8 (names_of findings)
unfolding names_of
names_utf8 [] all = tt
names_utf8 (f ∷ findings) all = (all.0.name, names_kept IsUtf8 _ (names_of findings) (names_utf8 findings all.1))

each_own : (findings : List FindingParts) (names : List (List ℕ)) → ByRecursion HasTexts findings → ByRecursion IsUtf8 names → ByRecursion (λ name. HasOwn name (filter (is_on name) findings)) names
each_own findings [] all names_all = tt
each_own findings (name ∷ names) all names_all = (record { of_name = names_all.0; of_own = own_texts (is_on name) findings all }, each_own findings names all names_all.1)

whole_utf8 : (findings : List FindingParts) → ByRecursion HasTexts findings → IsUtf8 (whole findings)
unfolding root_then
whole_utf8 findings all =
    let end : List ℕ = 0x3C ∷ 0x2F ∷ (codes "checkstyle>" ++ 0x0A ∷ []) in
    let rows : List ℕ = rows_then (own_then findings) (names_of findings) end in
    ascii_on (xml_head ++ codes "<checkstyle version=\"4.3\">\n") rows refl
    (rows_utf8 (own_then findings) (λ name. HasOwn name (filter (is_on name) findings)) (λ name rest has utf8. file_utf8 name (filter (is_on name) findings) rest has utf8) (names_of findings) end
    (each_own findings (names_of findings) all (names_utf8 findings all)) (IsUtf8-are_ascii (codes "</checkstyle>\n") refl))

-- what is written is read
pub document_read : (findings : List FindingParts) → ByRecursion HasTexts findings → value_of (checkstyle_of findings) ≡ Some (checkstyle_value findings)
document_read findings texts = ap value_of (text_written findings) ∙ whole_read findings (whole_utf8 findings texts) (whole_quiet findings)

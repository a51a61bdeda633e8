-- The XML of JUnit: a suite for each file, a case for each finding.
use Rattle.std.specs.Prelude.{◌≡◌, ℕ, ◌+◌, ◌==◌, ◌&&◌, ◌||◌, not, if◌then◌else◌, Bool, false, List, [], ◌∷◌, ◌++◌, Vec, length, map, Option, unwrap_or, codes, decimal}
use Rattle.std.specs.Borrow.{Bor}
use Rattle.std.specs.BTreeMap.{BTreeMap}
use Rattle.std.specs.List.{count_by, flat_map, list_any}
use Rattle.std.specs.Str.{bytes_eq}
use Rattle.ci_formats.specs.Finding.{FindingParts, finding_parts}
use Rattle.ci_formats.specs.declared.junit.Case.{Case}
use Rattle.ci_formats.specs.declared.junit.CaseKey.{CaseKey}
use Rattle.ci_formats.specs.Checkstyle.{severity_word}
use Rattle.ci_formats.specs.Files.{along, is_on, names_of, or_zero, own_in}
use Rattle.ci_formats.specs.Xml.{attribute, number_attribute, shown, xml_head}

-- a byte is `.` or `/`
abbrev pub is_part_end : ℕ → Bool
is_part_end byte = byte == 0x2E || byte == 0x2F

-- a byte begins the extension: it is the last dot, no slash stands behind it, and something of the file's name before it
abbrev pub ends_stem : ℕ → Bool → List ℕ → Bool
ends_stem x named rest = (x == 0x2E) && (named && not (list_any is_part_end rest))

-- a path up to its extension. The flag says that the byte before is one of the file's name
unfoldable pub stem_from : Bool → List ℕ → List ℕ
stem_from named [] = []
stem_from named (x ∷ xs) = if ends_stem x named xs then [] else x ∷ stem_from (not (x == 0x2F)) xs

abbrev pub stem : List ℕ → List ℕ
stem path = stem_from false path

-- what a case is called: its code, and where it stands
abbrev pub code_or_finding : Option (List ℕ) → List ℕ
code_or_finding code = unwrap_or code (codes "finding")

unfoldable pub case_name : FindingParts → List ℕ
case_name f = code_or_finding f.code ++ codes " at " ++ decimal (or_zero f.start.row) ++ codes ":" ++ decimal (or_zero f.start.column)

-- what the name and the class of a case are made of
pub record CaseParts : Type 0 where
  pub row : ℕ
  pub column : ℕ
  pub code : List ℕ
  pub stem : List ℕ

abbrev pub case_parts : FindingParts → CaseParts
case_parts f = record { row = or_zero f.start.row; column = or_zero f.start.column; code = code_or_finding f.code; stem = stem f.name }

abbrev pub key_parts : CaseKey → CaseParts
key_parts key = record { row = key.row; column = key.column; code = key.code.now; stem = key.stem.now }

abbrev pub are_same_parts : CaseParts → CaseParts → Bool
are_same_parts a b = (b.row == a.row) && ((b.column == a.column) && (bytes_eq b.code a.code && bytes_eq b.stem a.stem))

-- two findings would have cases of one name in one class
abbrev pub is_same_case : FindingParts → FindingParts → Bool
is_same_case f other = are_same_parts (case_parts f) (case_parts other)

-- the second of one name and each after it show their number
unfoldable pub number_text : ℕ → List ℕ
number_text number = if number == 1 then [] else codes " (" ++ decimal number ++ codes ")"

unfoldable pub case_attributes : ℕ → FindingParts → List ℕ
case_attributes number f =
    attribute (codes "classname") (stem f.name) ++ attribute (codes "file") f.name ++ attribute (codes "name") (case_name f ++ number_text number)

unfoldable pub failure_element : FindingParts → List ℕ
failure_element f =
    codes "<failure" ++ attribute (codes "type") (severity_word f.severity) ++ attribute (codes "message") f.message ++ codes ">" ++ shown f.message
    ++ codes "</failure>"

-- the case of a finding that has this number among those of its name
unfoldable pub case_text : ℕ → FindingParts → List ℕ
case_text number f = codes "<testcase" ++ case_attributes number f ++ codes ">" ++ failure_element f ++ codes "</testcase>\n"

-- the case of a finding behind the earlier ones
abbrev pub case_element : List FindingParts → FindingParts → List ℕ
case_element earlier f = case_text (count_by (is_same_case f) earlier + 1) f

-- where it is on the file of this name
abbrev pub case_on : List ℕ → List FindingParts → FindingParts → List ℕ
case_on name earlier f = if is_on name f then case_element earlier f else []

unfoldable pub totals : List ℕ → ℕ → List ℕ
totals name count =
    attribute (codes "name") name ++ number_attribute (codes "tests") count ++ number_attribute (codes "failures") count ++ number_attribute (codes "errors") 0

unfoldable pub suite_with : List ℕ → ℕ → List ℕ → List ℕ
suite_with name count cases = codes "<testsuite" ++ totals name count ++ codes ">\n" ++ cases ++ codes "</testsuite>\n"

-- the suite of a file
abbrev pub suite_element : List FindingParts → List ℕ → List ℕ
suite_element findings name = suite_with name (count_by (is_on name) findings) (along (case_on name) [] findings)

-- the suite where nothing was found: one case that passes
abbrev pub passing_suite : List ℕ
passing_suite = codes "<testsuite name=\"girzohal\" tests=\"1\" failures=\"0\" errors=\"0\">\n<testcase classname=\"girzohal\" name=\"no findings\"/>\n</testsuite>\n"

abbrev pub suites_of : List FindingParts → List ℕ
suites_of [] = passing_suite
suites_of (f ∷ rest) = flat_map (suite_element (f ∷ rest)) (names_of (f ∷ rest))

unfoldable pub junit_of : List FindingParts → List ℕ
junit_of findings = xml_head ++ codes "<testsuites>\n" ++ suites_of findings ++ codes "</testsuites>\n"

-- ---- numbered findings

-- a finding, and its number among those of its name
pub record Numbered : Type 0 where
  pub finding : FindingParts
  pub number : ℕ

abbrev pub numbered : Case → Numbered
numbered case = record { finding = finding_parts case.finding.now; number = case.number }

abbrev pub numbered_text : Numbered → List ℕ
numbered_text it = case_text it.number it.finding

-- the findings on the file of a name, numbered along all findings
abbrev pub numbered_on : List ℕ → List FindingParts → FindingParts → List Numbered
numbered_on name earlier f = if is_on name f then record { finding = f; number = count_by (is_same_case f) earlier + 1 } ∷ [] else []

-- the cases under a name
abbrev pub own_cases : {Y : Type 0} → BTreeMap (Bor (List ℕ)) (Vec Case Y) → Bor (List ℕ) → List Numbered
own_cases files name = map numbered (own_in files name)

-- under each name stand its findings, numbered
abbrev pub AreCasesByFile : {Y : Type 0} → BTreeMap (Bor (List ℕ)) (Vec Case Y) → List FindingParts → Type 0
AreCasesByFile files findings = (name : Bor (List ℕ)) → own_cases files name ≡ along (numbered_on name.now) [] findings

-- a suite of these cases
abbrev pub suite_of : List ℕ → List Numbered → List ℕ
suite_of name own = suite_with name (length own) (flat_map numbered_text own)

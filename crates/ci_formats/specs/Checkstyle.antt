-- The XML of Checkstyle 4.3: each file once, with its findings.
use Rattle.std.specs.Prelude.{ℕ, List, [], ◌++◌, filter, Option, Some, None, codes}
use Rattle.std.specs.List.{flat_map}
use Rattle.oxc_protocol.specs.declared.protocol.Severity.{Severity}
use Rattle.oxc_protocol.specs.declared.protocol.Severity.TheVariants.{Error, Warning, Advice}
use Rattle.ci_formats.specs.Finding.{FindingParts}
use Rattle.ci_formats.specs.Files.{is_on, names_of, or_zero}
use Rattle.ci_formats.specs.Xml.{attribute, number_attribute, xml_head}

abbrev pub severity_word : Severity → List ℕ
severity_word Error = codes "error"
severity_word Warning = codes "warning"
severity_word Advice = codes "info"

-- the code, where there is one
abbrev pub source_attribute : Option (List ℕ) → List ℕ
source_attribute None = []
source_attribute (Some code) = attribute (codes "source") code

-- where a finding stands, 0 where that isn't known
unfoldable pub place_attributes : FindingParts → List ℕ
place_attributes f = number_attribute (codes "line") (or_zero f.start.row) ++ number_attribute (codes "column") (or_zero f.start.column)

unfoldable pub error_element : FindingParts → List ℕ
error_element f =
    codes "<error" ++ place_attributes f ++ attribute (codes "severity") (severity_word f.severity) ++ attribute (codes "message") f.message
    ++ source_attribute f.code ++ codes "/>\n"

-- a file with these findings
unfoldable pub file_with : List ℕ → List FindingParts → List ℕ
file_with name own = codes "<file" ++ attribute (codes "name") name ++ codes ">\n" ++ flat_map error_element own ++ codes "</file>\n"

abbrev pub file_element : List FindingParts → List ℕ → List ℕ
file_element findings name = file_with name (filter (is_on name) findings)

unfoldable pub checkstyle_of : List FindingParts → List ℕ
checkstyle_of findings =
    xml_head ++ codes "<checkstyle version=\"4.3\">\n" ++ flat_map (file_element findings) (names_of findings) ++ codes "</checkstyle>\n"

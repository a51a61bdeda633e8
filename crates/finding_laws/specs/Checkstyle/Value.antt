-- The value that the XML of findings is read as.
use Rattle.std.specs.Prelude.{ℕ, List, [], ◌∷◌, codes, decimal, filter, map, Option, Some, None}
use Rattle.json.specs.Json.{Json, array, object, string, Members, member, no_members}
use Rattle.json.specs.Value.{items_of}
use Rattle.ci_formats.specs.Finding.{FindingParts}
use Rattle.ci_formats.specs.Checkstyle.{severity_word}
use Rattle.ci_formats.specs.Files.{is_on, names_of, or_zero}
use Rattle.ci_formats.specs.Xml.{held}

-- an array under a key, if there is anything
abbrev pub some_under : List ℕ → List Json → Members
some_under key [] = no_members
some_under key (value ∷ values) = member key (array (items_of (value ∷ values))) no_members

abbrev pub source_member : Option (List ℕ) → Members
source_member None = no_members
source_member (Some code) = member (codes "source") (string (held code)) no_members

-- an element `error`: its attributes
unfoldable pub error_value : FindingParts → Json
error_value f =
    object (member (codes "line") (string (decimal (or_zero f.start.row)))
    (member (codes "column") (string (decimal (or_zero f.start.column)))
    (member (codes "severity") (string (severity_word f.severity))
    (member (codes "message") (string (held f.message)) (source_member f.code)))))

-- an element `file` with these findings
unfoldable pub file_with : List ℕ → List FindingParts → Json
file_with name own = object (member (codes "name") (string (held name)) (some_under (codes "error") (map error_value own)))

abbrev pub file_value : List FindingParts → List ℕ → Json
file_value findings name = file_with name (filter (is_on name) findings)

-- the element `checkstyle`: each file once, with its findings
unfoldable pub checkstyle_value : List FindingParts → Json
checkstyle_value findings =
    object (member (codes "checkstyle") (object (member (codes "version") (string (codes "4.3")) (some_under (codes "file") (map (file_value findings) (names_of findings))))) no_members)

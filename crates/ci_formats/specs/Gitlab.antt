-- The JSON of GitLab's code quality reports.
use Rattle.std.specs.Prelude.{ℕ, ◌&&◌, Bool, List, [], ◌∷◌, Option, unwrap_or, codes}
use Rattle.std.specs.List.{count_by}
use Rattle.std.specs.Str.{bytes_eq}
use Rattle.serde_json.specs.Data.{Data, number, unsigned, string, array, object, no_members, put}
use Rattle.serde_json.specs.View.{items_of}
use Rattle.serde_json.specs.Written.{compact_text}
use Rattle.oxc_protocol.specs.declared.protocol.Severity.{Severity}
use Rattle.oxc_protocol.specs.declared.protocol.Severity.TheVariants.{Error, Warning, Advice}
use Rattle.escapes.specs.Cuts.{behind}
use Rattle.ci_formats.specs.Finding.{FindingParts}
use Rattle.ci_formats.specs.declared.gitlab.IssueKey.{IssueKey}
use Rattle.ci_formats.specs.Files.{along}
use Rattle.ci_formats.specs.Fingerprint.{fingerprint}

abbrev pub grade : Severity → List ℕ
grade Error = codes "critical"
grade Warning = codes "major"
grade Advice = codes "info"

-- a path without `./` before it
abbrev pub path_of : List ℕ → List ℕ
path_of name = unwrap_or (behind (codes "./") name) name

abbrev pub code_of : Option (List ℕ) → List ℕ
code_of code = unwrap_or code []

-- what the fingerprint of a finding is made of
pub record IssueParts : Type 0 where
  pub message : List ℕ
  pub code : List ℕ
  pub path : List ℕ

abbrev pub issue_parts : FindingParts → IssueParts
issue_parts f = record { message = f.message; code = code_of f.code; path = path_of f.name }

abbrev pub key_parts : IssueKey → IssueParts
key_parts key = record { message = key.message.now; code = key.code.now; path = key.path.now }

abbrev pub are_same_parts : IssueParts → IssueParts → Bool
are_same_parts a b = bytes_eq b.message a.message && (bytes_eq b.code a.code && bytes_eq b.path a.path)

-- two findings would have one fingerprint: path, code and message are the same
abbrev pub is_same_issue : FindingParts → FindingParts → Bool
is_same_issue f other = are_same_parts (issue_parts f) (issue_parts other)

-- the rows of a finding: the first where its row isn't known, and one where its end isn't
abbrev pub begin_of : FindingParts → ℕ
begin_of f = unwrap_or f.start.row 1

abbrev pub last_of : FindingParts → ℕ
last_of f = unwrap_or f.end.row (begin_of f)

-- the check of a finding without a code: the tool, else the program
abbrev pub usual_check : Option (List ℕ) → List ℕ
usual_check tool = unwrap_or tool (codes "girzohal")

-- the check of a finding: its code, else the usual one
abbrev pub check_of : List ℕ → FindingParts → List ℕ
check_of usual f = unwrap_or f.code usual

abbrev pub whole : ℕ → Data
whole n = number (unsigned n)

unfoldable pub location_value : FindingParts → Data
location_value f =
    object (put (codes "path") (string (path_of f.name))
    (put (codes "lines") (object (put (codes "end") (whole (last_of f)) (put (codes "begin") (whole (begin_of f)) no_members))) no_members))

-- a finding, before which this many of its fingerprint stand
unfoldable pub issue_value : List ℕ → ℕ → FindingParts → Data
issue_value usual before f =
    object (put (codes "location") (location_value f)
    (put (codes "severity") (string (grade f.severity))
    (put (codes "fingerprint") (string (fingerprint (path_of f.name) (code_of f.code) f.message before))
    (put (codes "check_name") (string (check_of usual f))
    (put (codes "description") (string f.message) no_members)))))

abbrev pub one_issue : List ℕ → List FindingParts → FindingParts → List Data
one_issue usual earlier f = issue_value usual (count_by (is_same_issue f) earlier) f ∷ []

-- the report of a tool's findings: an array of all, in order
unfoldable pub gitlab_value : Option (List ℕ) → List FindingParts → Data
gitlab_value tool findings = array (items_of (along (one_issue (usual_check tool)) [] findings))

abbrev pub gitlab_of : Option (List ℕ) → List FindingParts → List ℕ
gitlab_of tool findings = compact_text (gitlab_value tool findings)

-- The form of a log: for each object a table of its keys.
use Rattle.std.specs.Prelude.{ℕ, List, [], ◌∷◌, Bool, true, false, option_map, unwrap_or, find, codes}
use Rattle.std.specs.Str.{bytes_eq}
use Rattle.sarif_log.specs.declared.form.Key as code
use Rattle.sarif_log.specs.declared.form.Kind.{Kind}
use Rattle.sarif_log.specs.declared.form.Kind.TheVariants.{Any, Text, Word, Whole, Texts, Object, Objects, Named}
use Rattle.sarif_log.specs.declared.form.Words.TheVariants as words
use Rattle.sarif_log.specs.declared.form.Shape.{Shape}
use Rattle.sarif_log.specs.declared.form.Shape.TheVariants as shape

-- a key: its name, what stands under it, and whether it must be there
pub record Key : Type 0 where
  pub name : List ℕ
  pub kind : Kind
  pub must : Bool

abbrev pub must : List ℕ → Kind → Key
must name kind = record { name = name; kind = kind; must = true }

abbrev pub may : List ℕ → Kind → Key
may name kind = record { name = name; kind = kind; must = false }

-- the keys of an object
unfoldable pub keys_of : Shape → List Key
keys_of shape.Log =
    must (codes "version") (Word words.Version)
    ∷ must (codes "runs") (Objects shape.Run) ∷ []
keys_of shape.Run =
    must (codes "tool") (Object shape.Tool)
    ∷ may (codes "newlineSequences") Texts
    ∷ may (codes "columnKind") (Word words.ColumnKind)
    ∷ may (codes "originalUriBaseIds") (Named shape.ArtifactLocation)
    ∷ may (codes "artifacts") (Objects shape.Artifact)
    ∷ may (codes "invocations") (Objects shape.Invocation)
    ∷ may (codes "results") (Objects shape.Result) ∷ []
keys_of shape.Tool =
    must (codes "driver") (Object shape.Component)
    ∷ may (codes "extensions") (Objects shape.Component) ∷ []
keys_of shape.Component =
    must (codes "name") Text
    ∷ may (codes "rules") (Objects shape.Rule)
    ∷ may (codes "globalMessageStrings") (Named shape.Message) ∷ []
keys_of shape.Rule =
    must (codes "id") Text
    ∷ may (codes "name") Text
    ∷ may (codes "helpUri") Text
    ∷ may (codes "shortDescription") (Object shape.Message)
    ∷ may (codes "defaultConfiguration") (Object shape.Configuration)
    ∷ may (codes "messageStrings") (Named shape.Message) ∷ []
keys_of shape.Configuration =
    may (codes "level") (Word words.Level) ∷ []
keys_of shape.Message =
    may (codes "text") Text
    ∷ may (codes "id") Text
    ∷ may (codes "arguments") Texts ∷ []
keys_of shape.Invocation =
    may (codes "toolConfigurationNotifications") (Objects shape.Notification)
    ∷ may (codes "toolExecutionNotifications") (Objects shape.Notification) ∷ []
keys_of shape.Notification =
    may (codes "descriptor") (Object shape.RuleRef)
    ∷ may (codes "level") (Word words.Level)
    ∷ must (codes "message") (Object shape.Message)
    ∷ may (codes "locations") (Objects shape.Location) ∷ []
keys_of shape.Artifact =
    may (codes "location") (Object shape.ArtifactLocation)
    ∷ may (codes "contents") (Object shape.Contents) ∷ []
keys_of shape.Contents =
    may (codes "text") Text ∷ []
keys_of shape.ArtifactLocation =
    may (codes "uri") Text
    ∷ may (codes "uriBaseId") Text
    ∷ may (codes "index") Whole ∷ []
keys_of shape.Result =
    may (codes "ruleId") Text
    ∷ may (codes "ruleIndex") Whole
    ∷ may (codes "rule") (Object shape.RuleRef)
    ∷ may (codes "level") (Word words.Level)
    ∷ may (codes "kind") (Word words.ResultKind)
    ∷ must (codes "message") (Object shape.Message)
    ∷ may (codes "locations") (Objects shape.Location)
    ∷ may (codes "relatedLocations") (Objects shape.Location)
    ∷ may (codes "suppressions") (Objects shape.Suppression)
    ∷ may (codes "baselineState") (Word words.BaselineState)
    ∷ may (codes "fixes") (Objects shape.Fix) ∷ []
keys_of shape.RuleRef =
    may (codes "id") Text
    ∷ may (codes "index") Whole
    ∷ may (codes "toolComponent") (Object shape.ComponentRef) ∷ []
keys_of shape.ComponentRef =
    may (codes "index") Whole
    ∷ may (codes "name") Text ∷ []
keys_of shape.Location =
    may (codes "physicalLocation") (Object shape.Physical)
    ∷ may (codes "message") (Object shape.Message) ∷ []
keys_of shape.Physical =
    may (codes "artifactLocation") (Object shape.ArtifactLocation)
    ∷ may (codes "region") (Object shape.Region) ∷ []
keys_of shape.Region =
    may (codes "startLine") Whole
    ∷ may (codes "startColumn") Whole
    ∷ may (codes "endLine") Whole
    ∷ may (codes "endColumn") Whole
    ∷ may (codes "charOffset") Whole
    ∷ may (codes "charLength") Whole
    ∷ may (codes "byteOffset") Whole
    ∷ may (codes "byteLength") Whole ∷ []
keys_of shape.Suppression =
    may (codes "status") (Word words.Status) ∷ []
keys_of shape.Fix =
    must (codes "artifactChanges") (Objects shape.Change) ∷ []
keys_of shape.Change =
    must (codes "artifactLocation") (Object shape.ArtifactLocation)
    ∷ must (codes "replacements") (Objects shape.Replacement) ∷ []
keys_of shape.Replacement =
    must (codes "deletedRegion") (Object shape.Region)
    ∷ may (codes "insertedContent") (Object shape.Contents) ∷ []

abbrev pub kind_in : List Key → List ℕ → Kind
kind_in keys name = unwrap_or (option_map (λ key. key.kind) (find (λ key. bytes_eq key.name name) keys)) Any

-- what stands under a key
unfoldable pub kind_under : Shape → List ℕ → Kind
kind_under object name = kind_in (keys_of object) name

abbrev pub key_view : code.Key → Key
key_view key = record { name = key.name.now; kind = key.kind; must = key.must }

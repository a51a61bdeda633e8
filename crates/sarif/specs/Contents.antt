-- The contents that a log has, by the names of its artifacts.
use Rattle.std.specs.Prelude.{◌≡◌, ℕ, List, String}
use Rattle.std.specs.Borrow.{Bor}
use Rattle.std.specs.BTreeMap.{BTreeMap, get_by_text}
use Rattle.std.specs.declared.alloc.Global.{Global}
use Rattle.sarif_log.specs.Log.{Artifact, Names}
use Rattle.sarif.specs.Seen.{borrowed}
use Rattle.sarif.specs.Texts.{contents_named}

-- the map tells of each name the contents of the first of these artifacts of that name that has some
abbrev pub AreContents : Names → List Artifact → BTreeMap (String Global) (Bor (List ℕ)) → Type 0
AreContents names artifacts by_name = (name : List ℕ) → borrowed (get_by_text by_name name) ≡ contents_named names name artifacts

-- The findings of a baseline.
use Rattle.std.specs.Prelude.{◌≡◌, ℕ, Bool, true, false, List, Some, None}
use Rattle.std.specs.declared.ops.Range.{Range}
use Rattle.input_forms.specs.Begun.{begins_as}
use Rattle.input_forms.specs.Object.{IsJsonPart, has_files}
use Rattle.input_forms.specs.declared.begun.Begun.{Begun}
use Rattle.input_forms.specs.declared.begun.Begun.TheVariants.{Object, OtherJson, Xml, Lines}
use Rattle.found_reports.specs.Found.{Found}
use Rattle.found_reports.specs.Held.{lacks}
use Rattle.found_reports.specs.declared.sources.Lack.TheVariants.{Missing}
use Rattle.finding_filters.specs.Finding.{FindingParts}
use Rattle.report_filters.specs.Entries.{entries_of}
use Rattle.girzohal_options.specs.declared.Asked.{Asked}
use Rattle.girzohal_options.specs.declared.InputForm.TheVariants as form
use Rattle.girzohal_run.specs.Finds.{FindsOld, IsFound}
use Rattle.girzohal_run.specs.Reads.{part_of}
use Rattle.girzohal_run.specs.Run.{begins_lines}
use Rattle.girzohal_run.specs.Told.{Told}

-- a store without sources
abbrev pub no_source : Told
no_source path = Some (lacks Missing)

abbrev pub is_lines : List ℕ → Bool
is_lines bytes = begins_lines (begins_as bytes)

-- what an input has with the texts that it has itself; in lines a finding has the name that it has from the root, by what is told of places
abbrev pub FindsItself : Bool → Told → Asked → List ℕ → List Found → List ℕ → Type 0
FindsItself true told asked bytes found aside = FindsOld told no_source asked bytes found aside
FindsItself false told asked bytes found aside = IsFound no_source asked bytes found aside

-- an input of any form, without filters
abbrev pub as_any : Asked → Asked
as_any asked = record asked { from = form.Auto; rules = None }

-- the findings of an input, with the texts of their rows where it has them
pub record IsBaseline (told : Told) (asked : Asked) (front bytes : List ℕ) (entries : List FindingParts) : Type 0 where
  pub found : List Found
  pub aside : List ℕ
  pub finds : FindsItself (is_lines bytes) told (as_any asked) bytes found aside
  pub entries_are : entries ≡ entries_of front true (is_lines bytes) found

-- ---- whether it says the scopes of codes

-- the JSON object of an input has the key `files`, or hasn't
pub record HasKeyFiles (bytes : List ℕ) (has : Bool) : Type 0 where
  pub range : Range ℕ
  pub there : IsJsonPart bytes range
  pub is : has ≡ has_files (part_of bytes range)

abbrev pub SaysScopesAs : Begun → List ℕ → Bool → Type 0
SaysScopesAs Object bytes says = HasKeyFiles bytes says
SaysScopesAs OtherJson bytes says = says ≡ false
SaysScopesAs Xml bytes says = says ≡ false
SaysScopesAs Lines bytes says = says ≡ false

-- a document says scopes; a log and lines don't
abbrev pub SaysScopes : List ℕ → Bool → Type 0
SaysScopes bytes says = SaysScopesAs (begins_as bytes) bytes says

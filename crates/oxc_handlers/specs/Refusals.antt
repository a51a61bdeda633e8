-- Why a report is not drawn.
use Rattle.std.specs.Prelude.{◌≡◌, ℕ, ◌<◌, ◌≤◌, nat_lt, List, length, All, Option, Some, None, IfSome, Result, MatchResult, ⊤}
use Rattle.std.specs.List.{position}
use Rattle.std.specs.Option.{option_and_then}
use Rattle.std.specs.Str.{IsUtf8, IsValidUpTo}
use Rattle.oxc_span.specs.Label.{Label, label_end}
use Rattle.oxc_protocol.specs.Parts.{Parts}
use Rattle.oxc_protocol.specs.Source.{SourceParts}
use Rattle.oxc_handlers.specs.declared.view.RenderError.{RenderError}
use Rattle.oxc_handlers.specs.declared.view.RenderError.TheVariants.{LabelOutside, NotUtf8, SinkFault, OutOfMemory}

-- the first label, as given, that ends past a source of so many bytes
abbrev pub first_outside : ℕ → List Label → Option ℕ
first_outside len labels = position (λ label. nat_lt len (label_end label)) labels

-- the first label of a diagnostic that ends past its source
unfoldable pub outside_in : Parts → Option ℕ
outside_in parts = option_and_then (λ source. first_outside (length source.bytes) parts.labels) parts.source

-- labels point into a source that is UTF-8 for so many bytes alone
pub record IsNoText (parts : Parts) (valid_up_to : ℕ) : Type 0 where
  pub labels : 0 < length parts.labels
  pub source : SourceParts
  pub there : parts.source ≡ Some source
  pub upto : IsValidUpTo source.bytes valid_up_to

-- a diagnostic can be drawn: where it has a source, each label ends within it, and it is UTF-8 if there is a label
pub record IsFaultless (parts : Parts) : Type 0 where
  pub within : IfSome parts.source (λ source. All (λ label. label_end label ≤ length source.bytes) parts.labels)
  pub text : 0 < length parts.labels → IfSome parts.source (λ source. IsUtf8 source.bytes)

-- why a diagnostic, at a place of a list, is not drawn: a label that ends past its source, the first of them; else a source that is no
-- text though labels point into it; or want of memory, which may come at any time
abbrev pub IsRefusal : ℕ → Parts → RenderError → Type 0
IsRefusal place parts (LabelOutside report label) = (report ≡ place) × (outside_in parts ≡ Some label)
IsRefusal place parts (NotUtf8 report valid_up_to) = (report ≡ place) × (outside_in parts ≡ None) × IsNoText parts valid_up_to
IsRefusal place parts SinkFault = ⊥
IsRefusal place parts OutOfMemory = ⊤

-- an answer comes only where the diagnostic can be drawn, and an error only for a reason
abbrev pub IsJudged : {A : Type 0} → Parts → Result A RenderError → Type 0
IsJudged parts result = MatchResult result (λ _. IsFaultless parts) (IsRefusal 0 parts)

-- the same error of the report at another place
abbrev pub error_at : ℕ → RenderError → RenderError
error_at place (LabelOutside report label) = LabelOutside place label
error_at place (NotUtf8 report valid_up_to) = NotUtf8 place valid_up_to
error_at place SinkFault = SinkFault
error_at place OutOfMemory = OutOfMemory

-- Drawn lists of diagnostics, and why they are not drawn or not sent.
use Rattle.std.specs.Prelude.{◌≡◌, ℕ, ◌≤◌, List, take, All, Option, Some, Result, IfErr, IsErrOf, MatchResult, OnOk, ⊤}
use Rattle.std.specs.Io.KnownBytes.{Keeps}
use Rattle.std.specs.List.{flat_map, slice_get}
use Rattle.oxc_protocol.specs.Faults.{Rose}
use Rattle.oxc_protocol.specs.Parts.{Parts}
use Rattle.oxc_protocol.specs.Sink.{AppendsPrefix}
use Rattle.oxc_handlers.specs.declared.view.RenderError.{RenderError}
use Rattle.oxc_handlers.specs.declared.view.RenderError.TheVariants.{LabelOutside, NotUtf8, SinkFault, OutOfMemory}
use Rattle.oxc_handlers.specs.Handler.{Handler}
use Rattle.oxc_handlers.specs.JsonSent.{Receives}
use Rattle.oxc_handlers.specs.Refusals.{IsFaultless, IsRefusal}
use Rattle.oxc_handlers.specs.Report.{report_of}
use Rattle.oxc_handlers.specs.Theme.{none_theme}

-- the report of a diagnostic, as a handler draws it, kept closed where lists are spoken of
unfoldable pub text_of : Handler → Parts → List ℕ
text_of handler parts = report_of handler parts

-- ASCII without colors, 80 columns, tab stops at multiples of 4
abbrev pub plain_handler : Handler
plain_handler = record { theme = none_theme; width = 80; tab = 4 }

-- the texts of diagnostics, one after another
abbrev pub texts_of : Handler → List Parts → List ℕ
texts_of handler list = flat_map (text_of handler) list

-- the first of some diagnostics that can't be drawn stands at a place, and this is why
pub record IsFirstRefusal (place : ℕ) (list : List Parts) (error : RenderError) : Type 0 where
  pub before : All IsFaultless (take place list)
  pub parts : Parts
  pub there : slice_get list place ≡ Some parts
  pub refusal : IsRefusal place parts error

-- why diagnostics are not drawn: the first that can't be, with its place; or want of memory, which may come at any time
abbrev pub IsListRefusal : List Parts → RenderError → Type 0
IsListRefusal list (LabelOutside report label) = IsFirstRefusal report list (LabelOutside report label)
IsListRefusal list (NotUtf8 report valid_up_to) = IsFirstRefusal report list (NotUtf8 report valid_up_to)
IsListRefusal list SinkFault = ⊥
IsListRefusal list OutOfMemory = ⊤

-- an answer comes only where all diagnostics can be drawn, and an error only for a reason
abbrev pub AreJudged : {A : Type 0} → List Parts → Result A RenderError → Type 0
AreJudged list result = MatchResult result (λ _. All IsFaultless list) (IsListRefusal list)

-- why a text was not sent: it was not drawn, or it was and the sink failed
abbrev pub IsSendRefusal : Type 0 → (RenderError → Type 0) → RenderError → Type 0
IsSendRefusal faultless refusal (LabelOutside report label) = refusal (LabelOutside report label)
IsSendRefusal faultless refusal (NotUtf8 report valid_up_to) = refusal (NotUtf8 report valid_up_to)
IsSendRefusal faultless refusal SinkFault = faultless
IsSendRefusal faultless refusal OutOfMemory = ⊤

-- the same of a call that sends: it answers only where all can be drawn, and an error has a reason
abbrev pub IsSendJudged : {A : Type 0} → Type 0 → (RenderError → Type 0) → Result A RenderError → Type 0
IsSendJudged faultless refusal result = MatchResult result (λ _. faultless) (IsSendRefusal faultless refusal)

-- a sink that failed took a first part of the text, and else nothing was written
abbrev pub LeavesText : Option (List ℕ) → Option (List ℕ) → List ℕ → RenderError → Type 0
LeavesText before now text (LabelOutside report label) = Keeps before now
LeavesText before now text (NotUtf8 report valid_up_to) = Keeps before now
LeavesText before now text SinkFault = AppendsPrefix before now text
LeavesText before now text OutOfMemory = Keeps before now

-- what a call does that sends a text to a sink, of which `received` tells the bytes and `faults` the count of faults: the whole text
-- was taken, or where it answers an error what that error leaves; it says that the sink failed only where faults rose, and their count
-- never falls
pub record Sends {K A : Type 0} (received : K → Option (List ℕ)) (faults : K → ℕ) (old new : K) (text : List ℕ) (result : Result A RenderError) : Type 0 where
  pub sent : OnOk result (Receives (received old) (received new) text)
  pub left : IfErr result (LeavesText (received old) (received new) text)
  pub fault : IsErrOf result SinkFault → Rose (faults old) (faults new)
  pub later : faults old ≤ faults new

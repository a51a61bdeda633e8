-- What the JSON handler leaves in a sink where it fails.
use Rattle.std.specs.Prelude.{ℕ, List, Option}
use Rattle.std.specs.Io.KnownBytes.{Appends, Keeps}
use Rattle.oxc_protocol.specs.Sink.{AppendsPrefix}
use Rattle.oxc_handlers.specs.declared.view.RenderError.{RenderError}
use Rattle.oxc_handlers.specs.declared.view.RenderError.TheVariants.{LabelOutside, NotUtf8, SinkFault, OutOfMemory}

-- what a sink received grew by exactly this text
abbrev pub Receives : Option (List ℕ) → Option (List ℕ) → List ℕ → Type 0
Receives before now text = Appends before now text

-- a sink that failed took a first part of the text; for want of memory nothing was written; no report is refused
abbrev pub LeavesJson : Option (List ℕ) → Option (List ℕ) → List ℕ → RenderError → Type 0
LeavesJson before now text (LabelOutside report label) = ⊥
LeavesJson before now text (NotUtf8 report valid_up_to) = ⊥
LeavesJson before now text SinkFault = AppendsPrefix before now text
LeavesJson before now text OutOfMemory = Keeps before now

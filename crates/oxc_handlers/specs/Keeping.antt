-- Texts that are handed on until one is not kept.
use Rattle.std.specs.Prelude.{◌≡◌, ℕ, ◌+◌, Bool, true, List, [], ◌∷◌, MatchBool, ◌⊎◌}
use Rattle.oxc_protocol.specs.Parts.{Parts}
use Rattle.oxc_handlers.specs.declared.view.RenderError.{RenderError}
use Rattle.oxc_handlers.specs.declared.view.RenderError.TheVariants.{LabelOutside, NotUtf8, SinkFault, OutOfMemory}
use Rattle.oxc_handlers.specs.Handler.{Handler}
use Rattle.oxc_handlers.specs.Reports.{text_of}

module _ {K : Type 0} (keeps : K → Parts → List ℕ → Bool → K → Type 0) (handler : Handler) where
  -- the texts of diagnostics are handed on in order, up to and with the first that is not kept: so many in all
  abbrev pub KeepsUntil : K → List Parts → ℕ → K → Type 0
  KeepsUntil k [] n last = (n ≡ 0) × (k ≡ last)
  KeepsUntil k (p ∷ ps) n last =
      (kept : Bool) × (next : K) × (m : ℕ) × keeps k p (text_of handler p) kept next × (n ≡ m + 1)
      × MatchBool kept (KeepsUntil next ps m last) ((m ≡ 0) × (next ≡ last))

  -- a first part of the texts was handed on in order, and each was kept
  abbrev pub KeepsPart : K → List Parts → K → Type 0
  KeepsPart k [] last = k ≡ last
  KeepsPart k (p ∷ ps) last = (k ≡ last) ⊎ ((next : K) × keeps k p (text_of handler p) true next × KeepsPart next ps last)

  -- what was handed on where it ended with an error: for want of memory a first part, and else nothing
  abbrev pub KeepsAtError : K → List Parts → RenderError → K → Type 0
  KeepsAtError k list (LabelOutside report label) last = k ≡ last
  KeepsAtError k list (NotUtf8 report valid_up_to) last = k ≡ last
  KeepsAtError k list SinkFault last = k ≡ last
  KeepsAtError k list OutOfMemory last = KeepsPart k list last

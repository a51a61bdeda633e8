-- The words before don't fit.
use Rattle.std.proofs.Common.{◌≡◌, drop}
use Rattle.json_forms.specs.Guard.{any_fits}
use Rattle.json_forms.proofs.guard.fits_any.Given as goal

abbrev pub invariant-loop-word : goal.invariant-loop-word
invariant-loop-word l = any_fits l.ask l.text l.words ≡ any_fits l.ask l.text (drop l.word-index l.words)

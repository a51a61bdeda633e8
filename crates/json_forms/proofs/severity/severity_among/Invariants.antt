-- The words before are others.
use Rattle.std.proofs.Common.{◌≡◌, drop}
use Rattle.json_forms.specs.Severity.{among, words_view}
use Rattle.json_forms.proofs.severity.severity_among.Given as goal

abbrev pub invariant-loop-word : goal.invariant-loop-word
invariant-loop-word l = among (words_view l.words) l.text ≡ among (words_view (drop l.word-index l.words)) l.text

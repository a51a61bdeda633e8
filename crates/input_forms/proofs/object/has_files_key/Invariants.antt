-- None of the tokens before is such a key.
use Rattle.std.proofs.Common.{◌≡◌, length}
use Rattle.std.specs.List.{list_any}
use Rattle.json.specs.Lex.{tokens}
use Rattle.input_forms.specs.Scanned.{is_files_key}
use Rattle.input_forms.proofs.object.has_files_key.Given as goal

abbrev pub invariant-loop-token : goal.invariant-loop-token
invariant-loop-token l = list_any is_files_key l.reader ≡ list_any is_files_key (tokens l.text)

abbrev pub decreases-loop-token : goal.decreases-loop-token
decreases-loop-token l = length l.reader

-- The words of the table are the words of the list.
use Rattle.std.proofs.Common.{◌∙◌}
use Rattle.sarif_log.specs.Faults.{is_word, words_of}
use Rattle.sarif_log.proofs.FormLemmas.{one_of}
use Rattle.sarif_log.proofs.faults.is_word.Goals as goal

pub returns : goal.returns
unfolding is_word
returns c = c.is_one_of.ensures ∙ one_of c.words_of.result.now (words_of c.args.words) c.args.text.now c.words_of.ensures

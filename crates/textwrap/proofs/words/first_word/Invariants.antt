use Rattle.std.proofs.Common.{◌≡◌}
use Rattle.textwrap.specs.Words.{words}
use Rattle.textwrap.proofs.WordsLemmas.{words_from}
use Rattle.textwrap.proofs.words.first_word.Given as goal

-- the bytes so far and the words behind them are the words of the part
abbrev pub invariant-loop-at : goal.invariant-loop-at
invariant-loop-at l = words_from l.part l.at ≡ words l.part

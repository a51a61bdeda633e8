use Rattle.std.proofs.lemmas.Str.Pattern.{strip_suffix_char}
use Rattle.escapes.proofs.CutLemmas.{last_stripped}
use Rattle.escapes.proofs.cuts.without_last.Goals as goal

pub returns : goal.returns
returns c = last_stripped c.args.last c.args.text.now c.strip_suffix.result (strip_suffix_char c.args.last c.args.text.now c.strip_suffix.result c.strip_suffix.ensures.cases c.requires)

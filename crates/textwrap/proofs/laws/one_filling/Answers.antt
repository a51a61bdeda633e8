use Rattle.std.proofs.Common.{◌∙◌, sym}
use Rattle.textwrap.proofs.FilledLemmas.{filled_is, filled_only}
use Rattle.textwrap.proofs.laws.one_filling.Goals as goal

pub returns-clause-one : goal.returns-clause-one
returns-clause-one c a b is_a is_b =
    filled_only c.args._options.now.width c.args._options.now.initial_indent.now c.args._options.now.subsequent_indent.now c.args._text.now a is_a
    ∙ sym (filled_only c.args._options.now.width c.args._options.now.initial_indent.now c.args._options.now.subsequent_indent.now c.args._text.now b is_b)

pub returns-clause-computed : goal.returns-clause-computed
returns-clause-computed c = filled_is c.args._options.now.width c.args._options.now.initial_indent.now c.args._options.now.subsequent_indent.now c.args._text.now

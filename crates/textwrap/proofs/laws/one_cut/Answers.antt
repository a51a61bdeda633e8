use Rattle.textwrap.proofs.FrontsLemmas.{cuts_are, cuts_only}
use Rattle.textwrap.proofs.laws.one_cut.Goals as goal

pub returns-clause-one : goal.returns-clause-one
returns-clause-one c texts given = cuts_only c.args._room c.args._text.now texts given

pub returns-clause-computed : goal.returns-clause-computed
returns-clause-computed c = cuts_are c.args._room c.args._text.now

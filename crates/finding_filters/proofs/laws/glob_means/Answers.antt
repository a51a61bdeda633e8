use Rattle.std.specs.Str.{chars}
use Rattle.finding_filters.specs.Patterns.{is_slash_first, tokens_at}
use Rattle.finding_filters.proofs.LawLemmas.{taken_from, taken_to}
use Rattle.finding_filters.proofs.laws.glob_means.Goals as goal

pub returns : goal.returns
returns c =
    let glob = c.args._glob.now in
    let name = chars c.args._name.now in
    let back = tokens_at glob (is_slash_first name) in
    (λ is. taken_to glob back name is, λ is. taken_from glob back name is)

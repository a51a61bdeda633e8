-- What was heard was told, or a first part of it.
use Rattle.std.proofs.Common.{◌++◌}
use Rattle.girzohal_run.proofs.LiveLemmas.{heard_told}
use Rattle.girzohal_run.specs.Run.{device_since}
use Rattle.girzohal_run.proofs.live.say.Goals as goal

pub returns-clause-told : goal.returns-clause-told
returns-clause-told g c = λ heard before hears.
    heard_told c.hear-deaf.result (device_since g.E.Sink.received g.E.Sink.faults heard c.hear-deaf.new.err) (before ++ c.args.line.now) (c.hear-deaf.ensures heard before hears)

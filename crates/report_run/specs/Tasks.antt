-- The command that a task is.
use Rattle.report_run.specs.declared.look.Look.{Look}
use Rattle.report_run.specs.declared.look.Task.{Task}
use Rattle.report_run.specs.declared.words.Command.{Command}
use Rattle.report_run.specs.declared.words.Command.TheVariants as command
use Rattle.report_run.specs.declared.look.Task.TheVariants.{Draw, Make}

abbrev pub command_for : Task → Command
command_for (Draw look) = command.Draw look.theme look.width look.tabs look.json
command_for (Make count) = command.Make count

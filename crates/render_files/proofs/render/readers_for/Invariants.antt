use Rattle.std.proofs.Common.{◌≡◌}
use Rattle.render_files.proofs.render.readers_for.Given as goal

abbrev pub invariant-loop-report : goal.invariant-loop-report
invariant-loop-report l = record { known : l.readers ≡ record { files = l.files; rows = l.rows } }

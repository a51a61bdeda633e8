use Rattle.std.proofs.Common.{length, map}
use denote.Text.{Utf8}
use denote.Shadow.{shadow}
use Rattle.oxc_protocol.specs.Info.{info_parts}
use Rattle.problem_lines.specs.Lines.{AreRead}
use Rattle.problem_lines.proofs.read.read_all.Given as goal

-- the lines that are left come next
abbrev pub invariant-loop-rest : goal.invariant-loop-rest
invariant-loop-rest l = shadow (Utf8 l.rest) × AreRead (map info_parts l.infos.items) l.rest l.text

abbrev pub decreases-loop-rest : goal.decreases-loop-rest
decreases-loop-rest l = length l.rest

use Rattle.std.proofs.Common.{◌≡◌, drop}
use Rattle.std.specs.List.{list_all}
use Rattle.excerpts.specs.Cuts.{is_framed}
use Rattle.excerpts.proofs.cuts.all_frames.Given as goal

abbrev pub invariant-loop-line : goal.invariant-loop-line
invariant-loop-line l = list_all is_framed (drop l.line-index l.lines) ≡ list_all is_framed l.lines

use Rattle.std.proofs.Common.{◌≡◌, map, length, option_map}
use Rattle.line_reports.specs.Drawings.{all_laid, laid_parts}
use Rattle.line_reports.proofs.drawings.all_laid.Given as goal

abbrev pub invariant-loop-laid : goal.invariant-loop-laid
invariant-loop-laid l = all_laid (map (option_map laid_parts) l.laid) ≡ all_laid (map (option_map laid_parts) l.initial.laid)

abbrev pub decreases-loop-laid : goal.decreases-loop-laid
decreases-loop-laid l = length l.laid

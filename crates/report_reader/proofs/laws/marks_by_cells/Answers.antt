use Rattle.std.proofs.Common.{map}
use Rattle.report_reader.specs.Seen.{mark_model}
use Rattle.report_reader.proofs.CellsLemmas.{are_cells}
use Rattle.report_reader.proofs.laws.marks_by_cells.Goals as goal

pub returns : goal.returns
returns c = are_cells (map mark_model c.args._marks.now)

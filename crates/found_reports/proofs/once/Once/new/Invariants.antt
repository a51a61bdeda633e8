-- So many seats, without a number.
use Rattle.std.proofs.Common.{◌≡◌, length}
use Rattle.found_reports.proofs.OnceLemmas.{AreFree}
use Rattle.found_reports.proofs.once.Once.new.Given as goal

abbrev pub invariant-loop-file : goal.invariant-loop-file
invariant-loop-file l = record { free : AreFree l.seats.items; count : length l.seats.items ≡ l._file-index }

-- The files so far and those to come are all files.
use Rattle.std.proofs.Common.{◌≡◌, ◌++◌, drop, map}
use Rattle.report_arrays.specs.Values.{named}
use Rattle.report_arrays.proofs.copied.files_of.Given as goal

abbrev pub invariant-loop-file : goal.invariant-loop-file
invariant-loop-file l = l.made ++ map (named l.texts) (drop l.file-index l.files) ≡ map (named l.texts) l.files

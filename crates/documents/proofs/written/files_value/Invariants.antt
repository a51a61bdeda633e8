-- The files so far and those to come are all files, and the texts of those so far are short enough.
use Rattle.std.proofs.Common.{◌≡◌, ◌++◌, All, drop, map, take}
use Rattle.serde_json.specs.View.{view}
use Rattle.codespan.specs.Texts.{Fits}
use Rattle.documents.specs.Written.{file_value}
use Rattle.documents.proofs.written.files_value.Given as goal

abbrev pub invariant-loop-index : goal.invariant-loop-index
invariant-loop-index l = record {
  values : map view l.values.items ++ map file_value (drop l.index l.files) ≡ map file_value l.files;
  short : All (λ file. Fits file.text) (take l.index l.files);
}

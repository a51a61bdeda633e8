use Rattle.std.proofs.Common.{◌≡◌, string_bytes}
use Rattle.documents.specs.Generated.{source_of}
use Rattle.documents.proofs.generated.generated_source.Given as goal

abbrev pub invariant-loop-place : goal.invariant-loop-place
invariant-loop-place l = string_bytes l.text ≡ source_of l.place

use Rattle.std.proofs.Common.{subst}
use Rattle.std.specs.Str.{IsUtf8}
use Rattle.std.proofs.lemmas.Str.{IsCharBoundary-after_ascii}
use Rattle.escapes.proofs.spelled.push_escaped.Goals as goal

-- an ASCII byte ends a character
pub range_from-rest-requires : goal.range_from-rest-requires
range_from-rest-requires g c =
    λ _. IsCharBoundary-after_ascii c.loop-at.rest.now c.in-Some.at (subst IsUtf8 c.as_bytes.ensures.value c.as_bytes.ensures.utf8) c.in-Some.ensures.within c.in-Some.ensures.ascii

use Rattle.std.proofs.Common.{◌≡◌, map, string_bytes, take}
use Rattle.ci_formats.specs.Finding.{finding_parts}
use Rattle.ci_formats.specs.Annotation.{text_of}
use Rattle.ci_formats.proofs.annotation.github_text.Given as goal

abbrev pub invariant-loop-finding : goal.invariant-loop-finding
invariant-loop-finding l = string_bytes l.text ≡ text_of (map finding_parts (take l.finding-index l.findings))

-- A text is UTF-8, and short.
use Rattle.std.proofs.Common.{subst, ◌∙◌}
use Rattle.std.specs.Str.{IsUtf8}
use Rattle.codespan.specs.Texts.{Fits}
use Rattle.finding_laws.proofs.logs.look_at_text.Goals as goal

pub returns : goal.returns
returns c =
    record { short = subst Fits c.source.ensures.text c.source.ensures.fits; utf8 = subst IsUtf8 (c.as_str-text.ensures.value ∙ c.source.ensures.text) c.as_str-text.utf8 }

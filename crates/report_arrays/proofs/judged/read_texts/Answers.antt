use Rattle.std.proofs.Common.{sym, ◌∙◌}
use Rattle.std.proofs.lemmas.Str.{IsUtf8-from_is_utf8}
use Rattle.report_arrays.proofs.judged.read_texts.Goals as goal

pub from_utf8_unchecked-text-requires : goal.from_utf8_unchecked-text-requires
from_utf8_unchecked-text-requires c = IsUtf8-from_is_utf8 c.args.texts.now (sym c.is_utf8_by_parts.ensures ∙ c.if-not-is_utf8_by_parts.false)

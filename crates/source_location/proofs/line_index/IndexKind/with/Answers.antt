use Rattle.std.proofs.Common.{refl}
use Rattle.source_location.proofs.IndexLemmas.{ascii_said}
use Rattle.source_location.proofs.line_index.IndexKind.with.Goals as goal

pub returns-in-Ascii : goal.returns-in-Ascii
returns-in-Ascii c = rw (c.in-Ascii.is, ascii_said c.args.text.now c.is_ascii.result c.is_ascii.ensures.cases, c.if-is_ascii.true) refl

pub returns-in-Ascii-2 : goal.returns-in-Ascii-2
returns-in-Ascii-2 c = rw (c.in-Ascii-2.is, ascii_said c.args.text.now c.is_ascii.result c.is_ascii.ensures.cases, c.if-is_ascii.false) refl

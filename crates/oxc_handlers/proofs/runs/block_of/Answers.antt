use Rattle.std.proofs.Common.{ap, encode_utf8, sym}
use Rattle.oxc_handlers.specs.Cells.{repeated}
use Rattle.oxc_handlers.proofs.runs.block_of.Goals as goal

pub returns-in-32 : goal.returns-in-32
unfolding repeated lib.Utf8.encode
returns-in-32 c = ap (λ d. repeated 128 (encode_utf8 d)) (sym c.in-32.is)

pub returns-in-9472 : goal.returns-in-9472
unfolding repeated lib.Utf8.encode
returns-in-9472 c = ap (λ d. repeated 128 (encode_utf8 d)) (sym c.in-9472.is)

pub returns-in-94 : goal.returns-in-94
unfolding repeated lib.Utf8.encode
returns-in-94 c = ap (λ d. repeated 128 (encode_utf8 d)) (sym c.in-94.is)

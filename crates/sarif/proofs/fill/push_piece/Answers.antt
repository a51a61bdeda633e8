-- No character is cut behind a brace.
use Rattle.std.proofs.Common.{◌≡◌, slice_index, true, arith}
use Rattle.sarif.specs.Fill.{is_placeholder}
use Rattle.sarif.proofs.FillLemmas.{after_brace, after_byte, after_close}
use Rattle.sarif.proofs.fill.push_piece.Goals as goal

pub returns-then-second-eq123-clause-boundary : goal.returns-then-second-eq123-clause-boundary
returns-then-second-eq123-clause-boundary c =
    let here : slice_index c.args.rest.now 1 ≡ 123 = cc in
    after_byte c.args.rest.now 1 123 c.utf8.rest here (omega arith) (omega arith)

pub returns-then-second-eq125-clause-boundary : goal.returns-then-second-eq125-clause-boundary
returns-then-second-eq125-clause-boundary c =
    let here : slice_index c.args.rest.now 1 ≡ 125 = cc in
    after_byte c.args.rest.now 1 125 c.utf8.rest here (omega arith) (omega arith)

pub returns-then-is_placeholder-clause-boundary : goal.returns-then-is_placeholder-clause-boundary
returns-then-is_placeholder-clause-boundary c =
    let here : is_placeholder c.args.rest.now c.digits_len-digits.result ≡ true = cc in
    after_close c.args.rest.now c.digits_len-digits.result c.utf8.rest here

pub range-requires-clause-end_boundary : goal.range-requires-clause-end_boundary
range-requires-clause-end_boundary c = after_brace c.args.rest.now c.utf8.rest c.requires.brace

pub returns-clause-boundary : goal.returns-clause-boundary
returns-clause-boundary c = after_brace c.args.rest.now c.utf8.rest c.requires.brace

use Rattle.std.proofs.Common.{sym, subst, arith, ◌+◌}
use Rattle.std.specs.Str.{IsUtf8}
use Rattle.std.proofs.lemmas.Bool.{false_from_ne_true, false≢true}
use Rattle.std.proofs.lemmas.List.{take_rest, take_all}
use Rattle.std.proofs.lemmas.Str.{IsUtf8-from_is_utf8, is_utf8-from_IsUtf8}
use Rattle.report_arrays.proofs.Parts.{over_ascii, over_part, part_of}
use Rattle.report_arrays.proofs.bytes.is_utf8_by_parts.Goals as goal

pub returns-then-not-is_utf8 : goal.returns-then-not-is_utf8
returns-then-not-is_utf8 c =
    let bytes = c.args.bytes.now in
    let ascii = rw take_rest at c.ascii_blocks.ensures.ascii in
    let front = over_ascii c.loop-at.at c.ascii_blocks.result bytes c.loop-at.invariant.1 ascii in
    let part = part_of (c.loop-at.at + c.ascii_blocks.result) c.part_end-end.result bytes c.part_end-end.ensures.behind front c.part_end-end.ensures.boundary in
    sym (false_from_ne_true _ (λ said. false≢true (c.if-not-is_utf8.ensures.1 (part (IsUtf8-from_is_utf8 bytes said)))))

pub loop-at-preserved : goal.loop-at-preserved
loop-at-preserved c =
    let bytes = c.args.bytes.now in
    let ascii = rw take_rest at c.ascii_blocks.ensures.ascii in
    let front = over_ascii c.loop-at.at c.ascii_blocks.result bytes c.loop-at.invariant.1 ascii in
    let part = c.is_utf8.ensures.0 c.if-not-is_utf8.false in
    (c.part_end-end.ensures.boundary.0, over_part (c.loop-at.at + c.ascii_blocks.result) c.part_end-end.result bytes c.part_end-end.ensures.behind front part)

pub returns : goal.returns
returns c =
    let bytes = c.args.bytes.now in
    sym (is_utf8-from_IsUtf8 bytes (subst IsUtf8 (take_all c.loop-at.at bytes (omega (arith, c.loop-at-test.false))) c.loop-at.invariant.1))

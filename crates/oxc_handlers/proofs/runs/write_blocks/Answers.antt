use Rattle.std.proofs.Common.{◌≡◌, ◌*◌, ◌/◌, ◌%◌, ◌++◌, ◌∙◌, ap, arith, encode_utf8, string_bytes}
use Rattle.oxc_handlers.specs.Cells.{repeated}
use Rattle.oxc_handlers.proofs.CellsLemmas.{blocks_end}
use Rattle.oxc_handlers.proofs.runs.write_blocks.Goals as goal

pub returns : goal.returns
returns c =
    let done : c.loop-i._i ≡ c.args.count / 128 = omega (arith, c.loop-i-test.false, c.loop-i.auto._i-end) in
    let out = string_bytes c.args.out.now in
    let text = encode_utf8 c.args.c in
    c.in_ok-push_str-2.ensures.bytes
    ∙ ap (λ l. string_bytes c.loop-i.out ++ l) c.front_of.ensures
    ∙ ap (λ l. l ++ repeated (c.args.count % 128) text) (c.loop-i.invariant ∙ ap (λ n. out ++ repeated (n * 128) text) done)
    ∙ blocks_end out text c.args.count

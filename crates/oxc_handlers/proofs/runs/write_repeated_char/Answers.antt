use Rattle.std.proofs.Common.{◌≡◌, ◌++◌, ◌∙◌, ℕ, List, ap, arith, encode_utf8, string_bytes}
use Rattle.std.proofs.lemmas.Bool.Decides.{nat_tests}
use Rattle.oxc_handlers.specs.Cells.{repeated}
use Rattle.oxc_handlers.proofs.CellsLemmas.{written_none, written_once}
use Rattle.oxc_handlers.proofs.runs.write_repeated_char.Goals as goal

pub returns-then-count-eq0 : goal.returns-then-count-eq0
returns-then-count-eq0 c =
    let none : 0 ≡ c.args.count = grind (arith, nat_tests) in
    written_none (string_bytes c.args.out.now) (encode_utf8 c.args.c) ∙ ap (λ n. string_bytes c.args.out.now ++ repeated n (encode_utf8 c.args.c)) none

pub returns-then-count-eq1 : goal.returns-then-count-eq1
returns-then-count-eq1 c =
    let one : 1 ≡ c.args.count = grind (arith, nat_tests) in
    let out : List ℕ = string_bytes c.args.out.now in
    let text : List ℕ = encode_utf8 c.args.c in
    c.in_ok-push.ensures.bytes ∙ written_once out text ∙ ap (λ n. out ++ repeated n text) one

use Rattle.std.proofs.Common.{◌≡◌, List, ℕ, get_or, subst, arith, Some, None, Option}
use Rattle.std.proofs.lemmas.Bool.{eqb-true}
use Rattle.std.proofs.lemmas.Str.{IsCharBoundary-after_ascii}
use Rattle.memchr.specs.Find.{IsFirstByte, is_byte}
use Rattle.oxc_plan.proofs.RowsLemmas.{first_len_found, first_len_none}
use Rattle.oxc_plan.proofs.rows.piece_len.Goals as goal

-- what a search of the bytes of a text says of the text
found_in : (bytes text : List ℕ) (r : Option ℕ) → bytes ≡ text → IsFirstByte (is_byte 10) bytes r → IsFirstByte (is_byte 10) text r
found_in bytes text r same found = subst (λ list. IsFirstByte (is_byte 10) list r) same found

pub returns-in-Some-clause-exact : goal.returns-in-Some-clause-exact
returns-in-Some-clause-exact c =
    first_len_found c.args.text.now c.in-Some.at (found_in c.as_bytes.result.now c.args.text.now (Some c.in-Some.at) c.as_bytes.ensures.value c.in-Some.ensures)

pub returns-in-Some-clause-boundary : goal.returns-in-Some-clause-boundary
returns-in-Some-clause-boundary c =
    let found = found_in c.as_bytes.result.now c.args.text.now (Some c.in-Some.at) c.as_bytes.ensures.value c.in-Some.ensures in
    let ends : get_or c.args.text.now c.in-Some.at 0 ≡ 10 = eqb-true (get_or c.args.text.now c.in-Some.at 0) 10 found.1 in
    IsCharBoundary-after_ascii c.args.text.now c.in-Some.at c.utf8.text found.0.high (omega (arith, ends))

pub returns-in-None-clause-exact : goal.returns-in-None-clause-exact
returns-in-None-clause-exact c =
    first_len_none c.args.text.now (found_in c.as_bytes.result.now c.args.text.now None c.as_bytes.ensures.value c.in-None.ensures)

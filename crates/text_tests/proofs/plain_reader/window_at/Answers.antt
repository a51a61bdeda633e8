use Rattle.std.proofs.Common.{arith}
use Rattle.oxc_windows.proofs.RowsLemmas.{few_in_text}
use Rattle.text_tests.proofs.plain_reader.window_at.Goals as goal

pub returns-clause-few : goal.returns-clause-few
returns-clause-few c =
    let most = few_in_text c.args.len c.args.breaks.now c.requires.valid in
    (omega (arith, most, c.row_at-row.ensures.bound), omega (arith, most, c.row_at.ensures.bound))

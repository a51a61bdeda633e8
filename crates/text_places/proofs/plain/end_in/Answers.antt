use Rattle.std.proofs.Common.{arith, ◌≡◌, ◌+◌, ◌-◌, subst, sym, get_or}
use Rattle.text_places.specs.Ends.{IsRowEnd}
use Rattle.text_places.specs.Pages.{bytes_in}
use Rattle.text_places.proofs.PlainLemmas.{listed_end}
use Rattle.text_places.proofs.plain.end_in.Goals as goal

pub overflow_add-result : goal.overflow_add-result
overflow_add-result c =
    let end = listed_end (bytes_in c.args.page.now) c.args.ends.now c.args.row c.requires.ends c.requires.some c.requires.listed in
    omega (arith, end.within, c.requires.fits)

pub returns-clause-behind : goal.returns-clause-behind
returns-clause-behind c =
    let end = listed_end (bytes_in c.args.page.now) c.args.ends.now c.args.row c.requires.ends c.requires.some c.requires.listed in
    omega (arith, end.some)

pub returns-clause-end : goal.returns-clause-end
returns-clause-end c =
    let at = get_or c.args.ends.now (c.args.row - 1) 0 in
    let back : c.args.page.now.before.bytes + at - c.args.page.now.before.bytes ≡ at = omega arith in
    subst (IsRowEnd (bytes_in c.args.page.now) c.args.row) (sym back) (listed_end (bytes_in c.args.page.now) c.args.ends.now c.args.row c.requires.ends c.requires.some c.requires.listed)

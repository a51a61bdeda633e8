use Rattle.std.proofs.Common.{arith}
use Rattle.text_places.proofs.MendLemmas.{ahead_low, ahead_within, behind_within, page_bytes, page_boundary, between_read}
use Rattle.text_places.proofs.JoinLemmas.{page_most}
use Rattle.text_places.proofs.mend.part_between.Goals as goal

pub overflow_sub-from : goal.overflow_sub-from
overflow_sub-from g c =
    omega (
      arith,
      page_bytes c.args.pages.now c.number_before-first.result c.index-pages-first.result c.requires.known c.number_before-first.ensures.within c.index-pages-first.is,
      ahead_low c.args.pages.now c.number_before-first.result c.args.start c.number_before-first.ensures,
    )

pub overflow_sub-to : goal.overflow_sub-to
overflow_sub-to g c =
    omega (arith, page_bytes c.args.pages.now c.number_behind-last.result c.index-pages-last.result c.requires.known c.number_behind-last.ensures.within c.index-pages-last.is, c.number_behind-last.ensures.from)

pub merged-requires-clause-from : goal.merged-requires-clause-from
merged-requires-clause-from g c =
    page_boundary c.args.pages.now c.number_before-first.result c.args.start c.index-pages-first.result c.requires.known c.number_before-first.ensures.within c.index-pages-first.is c.requires.start
    (ahead_low c.args.pages.now c.number_before-first.result c.args.start c.number_before-first.ensures)
    (ahead_within c.args.pages.now c.number_before-first.result c.args.start c.index-pages-first.result c.number_before-first.ensures)

pub merged-requires-clause-to : goal.merged-requires-clause-to
merged-requires-clause-to g c =
    page_boundary c.args.pages.now c.number_behind-last.result c.args.end c.index-pages-last.result c.requires.known c.number_behind-last.ensures.within c.index-pages-last.is c.requires.end
    c.number_behind-last.ensures.from (behind_within c.args.pages.now c.number_behind-last.result c.args.end c.index-pages-last.result c.requires.end.0 c.number_behind-last.ensures)

pub returns-clause-part : goal.returns-clause-part
returns-clause-part g c =
    between_read c.args.pages.now c.number_before-first.result c.number_behind-last.result c.args.start c.args.end c.args.insert.now _ c.index-pages-first.result c.index-pages-last.result c.requires.known
    c.number_before-first.ensures c.number_behind-last.ensures c.requires.ordered c.requires.end.0 c.index-pages-first.is c.index-pages-last.is c.in_ok-text.ensures.text

pub returns-clause-ticks : goal.returns-clause-ticks
returns-clause-ticks g c =
    omega (
      arith,
      c.in_ok-text.ensures.ticks,
      page_most c.args.pages.now c.number_before-first.result c.index-pages-first.result c.requires.known c.number_before-first.ensures.within c.index-pages-first.is,
      page_most c.args.pages.now c.number_behind-last.result c.index-pages-last.result c.requires.known c.number_behind-last.ensures.within c.index-pages-last.is,
    )

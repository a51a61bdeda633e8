use Rattle.std.proofs.Common.{arith, subst, sym, ◌∙◌, ◌+◌, ◌++◌, ap, length}
use Rattle.std.proofs.lemmas.List.{length-append}
use Rattle.std.specs.String.{string_bytes}
use Rattle.text_places.specs.Pages.{bytes_in}
use Rattle.text_places.specs.Mending.{IsBetween}
use Rattle.text_places.proofs.JoinLemmas.{page_most, page_least, next_between}
use Rattle.text_places.proofs.mend.with_next.Goals as goal

pub returns-clause-kept : goal.returns-clause-kept
returns-clause-kept g c start end insert is =
    let part = c.args.part in
    let page = c.index-pages-next.result in
    let whole = c.in_ok-push_str.ensures.bytes ∙ ap (λ l. string_bytes part.text ++ l) c.opened-more.ensures.text in
    subst (λ t. IsBetween c.args.pages.now part.first (part.last + 1) start end insert t) (sym whole)
    (next_between c.args.pages.now part.first part.last start end insert (string_bytes part.text) page c.requires.known c.requires.within c.index-pages-next.is is)

pub returns-clause-long : goal.returns-clause-long
returns-clause-long g c short =
    let part = c.args.part in
    let page = c.index-pages-next.result in
    let whole = c.in_ok-push_str.ensures.bytes ∙ ap (λ l. string_bytes part.text ++ l) c.opened-more.ensures.text in
    absurd (omega (arith, short, ap length whole, length-append (string_bytes part.text) (bytes_in page), page_least c.args.pages.now (part.last + 1) page c.requires.known (omega arith) c.requires.within c.index-pages-next.is))

pub returns-clause-ticks : goal.returns-clause-ticks
returns-clause-ticks g c = omega (arith, c.opened-more.ensures.ticks, page_most c.args.pages.now (c.args.part.last + 1) c.index-pages-next.result c.requires.known c.requires.within c.index-pages-next.is)

pub returns-in_err-push_str-clause-ticks : goal.returns-in_err-push_str-clause-ticks
returns-in_err-push_str-clause-ticks g c = omega (arith, c.opened-more.ensures.ticks, page_most c.args.pages.now (c.args.part.last + 1) c.index-pages-next.result c.requires.known c.requires.within c.index-pages-next.is)

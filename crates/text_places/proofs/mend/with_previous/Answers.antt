use Rattle.std.proofs.Common.{arith, subst, sym, ◌∙◌, ◌-◌, ◌++◌, ap, length}
use Rattle.std.proofs.lemmas.List.{length-append}
use Rattle.std.specs.String.{string_bytes}
use Rattle.text_places.specs.Pages.{bytes_in}
use Rattle.text_places.specs.Mending.{IsBetween}
use Rattle.text_places.proofs.JoinLemmas.{page_most, page_least, previous_between}
use Rattle.text_places.proofs.mend.with_previous.Goals as goal

pub returns-clause-kept : goal.returns-clause-kept
returns-clause-kept g c start end insert is =
    let part = c.args.part in
    let page = c.index-pages-previous.result in
    let whole = c.in_ok-push_str.ensures.bytes ∙ ap (λ l. l ++ c.as_str.result.now) (c.in_ok-joined.ensures.ok ∙ c.opened-less.ensures.text) ∙ ap (λ l. bytes_in page ++ l) c.as_str.ensures.value in
    subst (λ t. IsBetween c.args.pages.now (part.first - 1) part.last start end insert t) (sym whole)
    (previous_between c.args.pages.now part.first part.last start end insert (string_bytes part.text) page c.requires.known c.requires.some c.requires.last c.index-pages-previous.is is)

pub returns-clause-long : goal.returns-clause-long
returns-clause-long g c short =
    let part = c.args.part in
    let page = c.index-pages-previous.result in
    let whole = c.in_ok-push_str.ensures.bytes ∙ ap (λ l. l ++ c.as_str.result.now) (c.in_ok-joined.ensures.ok ∙ c.opened-less.ensures.text) ∙ ap (λ l. bytes_in page ++ l) c.as_str.ensures.value in
    absurd (omega (arith, short, ap length whole, length-append (bytes_in page) (string_bytes part.text), page_least c.args.pages.now (part.first - 1) page c.requires.known (omega arith) (omega arith) c.index-pages-previous.is))

pub returns-clause-ticks : goal.returns-clause-ticks
returns-clause-ticks g c = omega (arith, c.opened-less.ensures.ticks, page_most c.args.pages.now (c.args.part.first - 1) c.index-pages-previous.result c.requires.known (omega arith) c.index-pages-previous.is)

pub returns-in_err-joined-clause-ticks : goal.returns-in_err-joined-clause-ticks
returns-in_err-joined-clause-ticks g c = omega (arith, c.opened-less.ensures.ticks, page_most c.args.pages.now (c.args.part.first - 1) c.index-pages-previous.result c.requires.known (omega arith) c.index-pages-previous.is)

pub returns-in_err-push_str-clause-ticks : goal.returns-in_err-push_str-clause-ticks
returns-in_err-push_str-clause-ticks g c = omega (arith, c.opened-less.ensures.ticks, page_most c.args.pages.now (c.args.part.first - 1) c.index-pages-previous.result c.requires.known (omega arith) c.index-pages-previous.is)

-- The first start is pushed before the search; then each line feed adds one.
use Rattle.std.proofs.Common.{[], ◌∷◌, ◌++◌, ◌<◌, ap, subst, ◌∙◌, length, All}
use Rattle.std.proofs.lemmas.List.Elements.{All-tail}
use Rattle.memchr.specs.Find.{is_byte, places}
use Rattle.codespan.proofs.LinesLemmas.{places_within, starts_from_places, starts_push}
use Rattle.codespan.proofs.file.line_starts.Goals as goal

pub loop-at-init : goal.loop-at-init
loop-at-init c =
    let first = c.in_ok-push.ensures.items ∙ ap (λ list. list ++ record { 0 = 0 } ∷ []) c.new-starts.ensures.items in
    let left = c.into_iter-at-iterator.ensures.into_iter_gives ∙ c.memchr_iter-at-items.ensures.value ∙ ap (places (is_byte 10)) c.as_bytes.ensures.value in
    rw (first, left) (tt, tt, starts_from_places c.args.source.now, places_within c.args.source.now)

pub loop-at-preserved : goal.loop-at-preserved
loop-at-preserved c = (
  tt,
  tt,
  starts_push c.loop-at.starts.items _ c.in-Some.at c.loop-at.at-iterator c.next.new.self _ c.in_ok-push-2.ensures.items c.in-Some.ensures.steps c.loop-at.invariant.2,
  All-tail (λ at. at < length c.args.source.now) c.in-Some.at c.next.new.self (subst (All (λ at. at < length c.args.source.now)) c.in-Some.ensures.steps c.loop-at.invariant.3),
)

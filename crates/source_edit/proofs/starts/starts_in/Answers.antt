use Rattle.std.proofs.Common.{◌≡◌, ◌+◌, ◌-◌, ◌<◌, ◌++◌, ◌∷◌, [], ◌==◌, if◌then◌else◌, length, map, get_or, sym, ap, subst, ◌∙◌, arith, All}
use Rattle.std.specs.List.{filter}
use Rattle.std.proofs.lemmas.List.Elements.{All-tail}
use Rattle.source_edit.specs.Starts.{ends_row}
use Rattle.text_places.proofs.EndLemmas.{is_start}
use Rattle.source_edit.proofs.FoundLemmas.{joined, first_is, found_init, found_one, found_none, places_inside}
use Rattle.source_edit.proofs.starts.starts_in.Goals as goal

pub loop-at-init : goal.loop-at-init
loop-at-init c =
    let before = c.args.before.now in
    let insert = c.args.insert.now in
    let behind = c.args.behind.now in
    let first : c.in_ok-starts.starts.items ≡ filter (is_start (joined before insert behind)) (length before ∷ []) =
    c.in_ok-starts.ensures
    ∙ ap (λ next. if length before == 0 then length before ∷ [] else if ends_row (get_or before (length before - 1) 0) next then length before ∷ [] else []) c.byte_at.ensures
    ∙ first_is before insert behind in
    let left = c.into_iter-at-iterator.ensures.into_iter_gives ∙ c.memchr2_iter-at-items.ensures.value in
    rw left (tt, tt, found_init before insert behind c.in_ok-starts.starts.items first, places_inside insert)

pub loop-at-preserved-in-Continue-branch-2 : goal.loop-at-preserved-in-Continue-branch-2
loop-at-preserved-in-Continue-branch-2 c =
    let before = c.args.before.now in
    let insert = c.args.insert.now in
    let behind = c.args.behind.now in
    let at = c.in-Some.at in
    let rest = c.next.new.self in
    let known = ap (λ list. c.loop-at.starts.items ++ filter (is_start (joined before insert behind)) (map (λ at. length before + at + 1) list)) (sym c.in-Some.ensures.steps) ∙ c.loop-at.invariant.2 in
    let all = subst (All (λ at. at < length insert)) c.in-Some.ensures.steps c.loop-at.invariant.3 in
    let ends = ap (ends_row (get_or insert at 0)) (sym c.byte_at-in-loop-at.ensures) ∙ sym c.ends_row.ensures ∙ c.if-ends_row.true in (
      tt,
      tt,
      ap (λ l. l ++ filter (is_start (joined before insert behind)) (map (λ at. length before + at + 1) rest)) c.in_ok-push.ensures.items
          ∙ found_one before insert behind c.loop-at.starts.items at c.new.result rest _ (all 0 0 (omega arith)) c.new.ensures ends known,
      All-tail (λ at. at < length insert) at rest all,
    )

pub loop-at-preserved : goal.loop-at-preserved
loop-at-preserved c =
    let before = c.args.before.now in
    let insert = c.args.insert.now in
    let behind = c.args.behind.now in
    let at = c.in-Some.at in
    let rest = c.next.new.self in
    let known = ap (λ list. c.loop-at.starts.items ++ filter (is_start (joined before insert behind)) (map (λ at. length before + at + 1) list)) (sym c.in-Some.ensures.steps) ∙ c.loop-at.invariant.2 in
    let all = subst (All (λ at. at < length insert)) c.in-Some.ensures.steps c.loop-at.invariant.3 in
    let ends = ap (ends_row (get_or insert at 0)) (sym c.byte_at-in-loop-at.ensures) ∙ sym c.ends_row.ensures ∙ c.if-ends_row.false in
    (tt, tt, found_none before insert behind c.loop-at.starts.items at rest _ (all 0 0 (omega arith)) ends known, All-tail (λ at. at < length insert) at rest all)

-- One character after another.
use Rattle.std.proofs.Common.{◌+◌, sym, subst, length, arith, Option, ℕ}
use Rattle.std.proofs.lemmas.List.{get_or_read}
use Rattle.excerpt_rows.specs.Search.{EndsWith, IsLongest}
use Rattle.excerpt_rows.proofs.SearchLemmas.{FoundBy, advanced, found_when, goes_on, scan_next, scan_whole, twice}
use Rattle.excerpt_rows.proofs.search.only_place.Goals as goal
use Rattle.excerpt_rows.proofs.search.only_place.Goals.{then-matched-core+else-is_some, else-matched-core}

pub returns-then-is_some : goal.returns-then-is_some
returns-then-is_some c =
    let core = c.args.core.now in
    let text = c.args.text.now in
    let k = c.loop-k.k in
    let on = advanced core text (length core) k c.loop-k.matched c.index-text-k.result c.next-matched.result c.loop-k.invariant.longest
    (sym (get_or_read text k c.index-text-k.result (omega arith) c.index-text-k.is 0)) c.next-matched.ensures in
    let whole : EndsWith core text (k + 1) (length core) = subst (λ n. EndsWith core text (k + 1) n) c.if-matched-core.true on.ends in
    twice core text k c.loop-k.found (sym c.if-is_some.ensures) (omega arith) whole c.loop-k.invariant.found

pub loop-k-preserved : goal.loop-k-preserved
loop-k-preserved c =
    let core = c.args.core.now in
    let text = c.args.text.now in
    let k = c.loop-k.k in
    let on = advanced core text (length core) k c.loop-k.matched c.index-text-k.result c.next-matched.result c.loop-k.invariant.longest
    (sym (get_or_read text k c.index-text-k.result (omega arith) c.index-text-k.is 0)) c.next-matched.ensures in
    elim c.if-matched-core.branch [
      | then-matched-core+else-is_some w ↦
          (let whole : EndsWith core text (k + 1) (length core) = subst (λ n. EndsWith core text (k + 1) n) w.if-matched-core.true on.ends in
          record {
            longest = subst (λ n. IsLongest core text (length core) (k + 1) n) (sym w.matched-is) (scan_whole core text (k + 1) w.index-matched.result.now whole
                (subst (λ n. IsLongest core core (length core) (length core) n)
                (sym (get_or_read c.in_ok-borders.borders.items (length core) w.index-matched.result.now c.in_ok-borders.ensures.len w.index-matched.ensures 0))
                (c.in_ok-borders.ensures.each (length core) c.requires (omega arith))));
            found = subst (λ (f : Option ℕ). FoundBy core text (k + 1) f) (sym w.found-is) (found_when core text k _ c.loop-k.found (sym w.if-is_some.ensures) (omega arith) whole c.loop-k.invariant.found);
          })
      | else-matched-core w ↦
          (record {
            longest = subst (λ n. IsLongest core text (length core) (k + 1) n) (sym w.matched-is) (scan_next core text k c.next-matched.result on w.if-matched-core.false);
            found = subst (λ (f : Option ℕ). FoundBy core text (k + 1) f) (sym w.found-is) (goes_on core text k c.next-matched.result c.loop-k.found on w.if-matched-core.false c.loop-k.invariant.found);
          })
    ]

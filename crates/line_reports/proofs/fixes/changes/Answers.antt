-- One hunk more.
use Rattle.std.proofs.Common.{◌≡◌, ◌++◌, ◌∷◌, [], List, ap, ◌∙◌, map, option_map}
use Rattle.std.proofs.lemmas.List.{map-append}
use Rattle.found_reports.specs.Fixes.{ChangeParts, change_view}
use Rattle.line_reports.proofs.FixLemmas.{change_more, rest_within}
use Rattle.line_reports.proofs.fixes.changes.Goals as goal

pub loop-left-preserved : goal.loop-left-preserved
loop-left-preserved c =
    let old : List ChangeParts = map change_view c.loop-left.changes.items in
    let new : List ChangeParts = map change_view c.push.new.self.items in
    let put : new ≡ old ++ change_view c.in-Some.change ∷ [] = ap (map change_view) c.in_ok-push.ensures.items ∙ map-append change_view c.loop-left.changes.items (c.in-Some.change ∷ []) in
    record {
      changes =
          change_more c.args.source.now.text.now c.loop-left.left.now c.head.result.now c.tail-left.result.now c.first-item.result c.hunk_rest-count.result (option_map change_view c.in_ok-change.field-0)
          (change_view c.in-Some.change) old new _ c.in-len1-up.len_at_least c.first-item.is c.hunk_rest-count.ensures.value
          c.head.ensures c.in_ok-change.ensures (ap (option_map change_view) c.in-Some.is) put c.tail-left.ensures c.loop-left.invariant.changes;
      within = rest_within c.loop-left.left.now c.tail-left.result.now c.hunk_rest-count.result _ c.tail-left.ensures c.loop-left.invariant.within;
    }

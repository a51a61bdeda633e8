-- One call or result more, with both its lists.
use Rattle.std.proofs.Common.{◌≡◌, ◌++◌, ◌∙◌, ◌<◌, ◌≤◌, [], true, false, ap, get_or, length, map, refl, string_bytes, sym}
use Rattle.std.proofs.lemmas.List.{append-nil, take_all}
use Rattle.std.specs.List.{flat_map}
use Rattle.sarif_log.specs.Log.{invocation_view, location_view, log_result_view, names_view, notification_view, run_view}
use Rattle.sarif.specs.Asked.{invocation_names, location_names, note_names, result_names}
use Rattle.sarif.specs.Findings.{is_finding}
use Rattle.sarif.proofs.AskedLemmas.{added_both, one_item, result_named, result_unnamed, run_added}
use Rattle.sarif.proofs.asked.push_run_names.Goals as goal
use Rattle.sarif.proofs.asked.push_run_names.Goals.{then-is_finding+in_ok-push_locations_names+in_ok-push_locations_names-2, else-is_finding}

pub loop-invocation-preserved : goal.loop-invocation-preserved
unfolding invocation_names invocation_view
loop-invocation-preserved c =
    let run = c.args.run.now in
    let notes = note_names (names_view run.names) in
    let it = c.invocation-item.result in
    let before = map string_bytes c.loop-invocation.names.items in
    let middle = map string_bytes c.push_notes_names.new.names.items in
    let after = map string_bytes c.push_notes_names-in-loop-invocation.new.names.items in
    let first : middle ≡ before ++ flat_map notes (map notification_view it.configuration.items) = rw c.deref.ensures.value at c.in_ok-push_notes_names.ensures in
    let second : after ≡ middle ++ flat_map notes (map notification_view it.execution.items) = rw c.deref-in-loop-invocation.ensures.value at c.in_ok-push_notes_names-2.ensures in
    let both : after ≡ before ++ invocation_names (names_view run.names) (invocation_view it) =
    added_both notes before middle after (map notification_view it.configuration.items) (map notification_view it.execution.items) first second in
    let within : c.loop-invocation.invocation-index < length run.invocations.items = rw c.deref-invocation-items.ensures.value at c.loop-invocation-test.true in
    let here : it ≡ get_or run.invocations.items c.loop-invocation.invocation-index it = rw c.deref-invocation-items.ensures.value at c.invocation-item.is in
    one_item invocation_view (invocation_names (names_view run.names)) (map string_bytes c.args.names.now.items) before after run.invocations.items c.loop-invocation.invocation-index it
    within here c.loop-invocation.invariant both

pub loop-it-preserved : goal.loop-it-preserved
unfolding log_result_view
loop-it-preserved c =
    let run = c.args.run.now in
    let names = names_view run.names in
    let it = c.it-item.result in
    let before = map string_bytes c.loop-it.names.items in
    let new = map string_bytes c.if-is_finding.names.items in
    let start = map string_bytes c.args.names.now.items ++ flat_map (invocation_names names) (map invocation_view run.invocations.items) in
    let within : c.loop-it.it-index < length run.results.items = rw c.deref-it-items.ensures.value at c.loop-it-test.true in
    let here : it ≡ get_or run.results.items c.loop-it.it-index it = rw c.deref-it-items.ensures.value at c.it-item.is in
    let more : new ≡ before ++ result_names names (log_result_view it) =
    elim c.if-is_finding.branch [
      | then-is_finding+in_ok-push_locations_names+in_ok-push_locations_names-2 w ↦
          (let found : is_finding (log_result_view it) ≡ true = sym c.is_finding.ensures ∙ w.if-is_finding.true in
          let locations = location_names names in
          let own = map location_view it.locations.items in
          let related = map location_view it.related.items in
          let middle = map string_bytes w.push_locations_names.new.names.items in
          let after = map string_bytes w.push_locations_names-then-is_finding.new.names.items in
          let first : middle ≡ before ++ flat_map locations own = rw w.deref-then-is_finding.ensures.value at w.in_ok-push_locations_names.ensures in
          let second : after ≡ middle ++ flat_map locations related = rw w.deref-then-is_finding-2.ensures.value at w.in_ok-push_locations_names-2.ensures in
          let named : result_names names (log_result_view it) ≡ flat_map locations (own ++ related) = result_named names (log_result_view it) found in
          ap (λ those. map string_bytes those.items) w.names-is ∙ added_both locations before middle after own related first second ∙ ap (λ those. before ++ those) (sym named))
      | else-is_finding w ↦
          (let none : result_names names (log_result_view it) ≡ [] = result_unnamed names (log_result_view it) (sym c.is_finding.ensures ∙ w.if-is_finding.false) in
          ap (λ those. map string_bytes those.items) w.names-is ∙ sym (append-nil before) ∙ ap (λ those. before ++ those) (sym none))
    ] in
    one_item log_result_view (result_names names) start before new run.results.items c.loop-it.it-index it within here c.loop-it.invariant more

pub returns : goal.returns
unfolding run_view
returns c =
    let run = c.args.run.now in
    let start = map string_bytes c.args.names.now.items in
    let notes = flat_map (invocation_names (names_view run.names)) (map invocation_view run.invocations.items) in
    let all : length run.results.items ≤ c.loop-it.it-index = rw c.deref-it-items.ensures.value at c.loop-it-test.false in
    run_added (run_view run) start (start ++ notes) (map string_bytes c.loop-it.names.items) refl
    (c.loop-it.invariant ∙ ap (λ those. (start ++ notes) ++ flat_map (result_names (names_view run.names)) (map log_result_view those)) (take_all c.loop-it.it-index run.results.items all))

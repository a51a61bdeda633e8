-- The finding comes after the others.
use Rattle.std.proofs.Common.{rules, ◌∷◌, [], ◌++◌, ◌∙◌, ap, append-nil, map, string_bytes, sym}
use Rattle.std.proofs.lemmas.List.{map-append}
use Rattle.found_reports.specs.Kept.{file_view, report_view}
use Rattle.report_filters.specs.Entries.{entry_parts}
use Rattle.report_filters.proofs.EntryLemmas.{none_new, one_new}
use Rattle.report_filters.proofs.entries.push_entry.Goals as goal

pub returns : goal.returns
returns c =
    let it = c.args.it.now in
    let files = map file_view it.files.now in
    let old = c.args.entries.now.items in
    let entry = c.in_ok-entry_in.field-0 in
    ap (map entry_parts) c.in_ok-push.ensures.items ∙ (map-append entry_parts old (entry ∷ [])
    ∙ ap (λ more. map entry_parts old ++ more)
    (one_new (string_bytes c.args.root.now.front) c.args.rows c.args.notes it.inside files it.report.now it.others.now (entry_parts entry) c.notes_before-reports.result
    (search rules) c.notes_before-reports.ensures.value c.in_ok-entry_in.ensures))

pub returns-then-is_own_note : goal.returns-then-is_own_note
returns-then-is_own_note c =
    let it = c.args.it.now in
    let files = map file_view it.files.now in
    let old = map entry_parts c.args.entries.now.items in
    sym (ap (λ more. old ++ more)
    (none_new (string_bytes c.args.root.now.front) c.args.rows c.args.notes it.inside (report_view files it.report.now) (map (report_view files) it.others.now)
    (sym c.is_own_note.ensures ∙ c.if-is_own_note.true)) ∙ append-nil old)

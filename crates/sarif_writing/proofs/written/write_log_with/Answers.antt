-- The text is that of the value, and is read as it.
use Rattle.std.proofs.Common.{◌≡◌, ◌≤◌, ◌∙◌, Some, ap, map, subst, sym, false}
use Rattle.serde_json.specs.Data.{depth}
use Rattle.serde_json.specs.View.{view}
use Rattle.serde_json.specs.Written.{compact_text, has_float}
use Rattle.found_reports.specs.Fixes.{fix_view}
use Rattle.render_files.specs.Given.{given_report}
use Rattle.sarif_writing.specs.Written.{log_of, log_with}
use Rattle.sarif_writing.proofs.PlainLemmas.{no_float, shallow}
use Rattle.sarif_writing.proofs.written.write_log_with.Goals as goal

pub returns-clause-text : goal.returns-clause-text
returns-clause-text c =
    let tool = c.args.tool.now in
    let reports = map given_report c.args.reports.now in
    let fixes = map (λ own. map fix_view own.now) c.args.fixes.now in
    let is : view c.in_ok-written.written ≡ log_with tool c.args.files.now c.args.unread.now reports c.args.places.now fixes = c.in_ok-written.ensures ∙ ap log_of c.in_ok-body.ensures.value in
    let whole : has_float (view c.in_ok-written.written) ≡ false = ap has_float is ∙ no_float tool c.args.files.now c.args.unread.now reports c.args.places.now fixes in
    c.in_ok-text.ensures.text whole ∙ ap compact_text is

pub returns-clause-reads_back : goal.returns-clause-reads_back
returns-clause-reads_back c =
    let tool = c.args.tool.now in
    let reports = map given_report c.args.reports.now in
    let fixes = map (λ own. map fix_view own.now) c.args.fixes.now in
    let is : view c.in_ok-written.written ≡ log_with tool c.args.files.now c.args.unread.now reports c.args.places.now fixes = c.in_ok-written.ensures ∙ ap log_of c.in_ok-body.ensures.value in
    let low : depth (view c.in_ok-written.written) ≤ 127 = subst (λ v. depth v ≤ 127) (sym is) (shallow tool c.args.files.now c.args.unread.now reports c.args.places.now fixes) in
    c.in_ok-text.ensures.reads_back low ∙ ap Some is

-- The log's findings with what the one open file gives of its names.
use Rattle.std.proofs.Common.{rules, ◌≡◌, ℕ, List, All, false, map, string_bytes, subst}
use Rattle.std.specs.List.{list_any}
use Rattle.found_reports.specs.Found.{Found}
use Rattle.found_reports.specs.Listed.{held_in}
use Rattle.source_store.specs.Given.{IsGiven}
use Rattle.source_store.specs.Matching.{is_named, means_file}
use Rattle.source_store.specs.declared.named.Spelling.TheVariants.{Uri}
use Rattle.sarif_log.specs.Log.{log_view}
use Rattle.sarif.specs.Meaning.{reports_in}
use Rattle.girzohal_lsp.specs.Found.{AreShown, log_columns, told_open}
use Rattle.girzohal_lsp.proofs.KeptLemmas.{log_missed}
use Rattle.girzohal_lsp.proofs.LogLemmas.{nothing_shown}
use Rattle.girzohal_lsp.proofs.found.found_in_log.Goals as goal

pub returns-then-not-is_one_named-clause-shown : goal.returns-then-not-is_one_named-clause-shown
returns-then-not-is_one_named-clause-shown c = λ keeps.
    let kept = c.args.kept.now in
    let path = c.args.path.now in
    let none : list_any (is_named path) (map string_bytes kept.paths.now) ≡ false = search rules in
    nothing_shown kept.asked (log_view c.args.log.now) path c.args.text.now c.new.result.items
    (subst (λ (names : List (List ℕ)). All (λ name. means_file Uri path name ≡ false) names) keeps.0 (log_missed path (map string_bytes kept.names.now) (map string_bytes kept.paths.now) keeps.1 none))
    c.new.ensures.items

pub returns-clause-shown : goal.returns-clause-shown
returns-clause-shown c = λ keeps.
    let kept = c.args.kept.now in
    let path = c.args.path.now in
    let text = c.args.text.now in
    let log = log_view c.args.log.now in
    let given = held_in c.in_ok-sources.sources.entries.items in
    let found : c.in_ok-found.found.found ≡ reports_in given (log_columns kept.asked.columns) log = search rules in
    record {
      given = given;
      told_so = subst (λ (l : List (List ℕ)). IsGiven (told_open path text) Uri l given) keeps.0 c.in_ok-sources.ensures;
      are = subst (λ (l : List Found). AreShown Uri path text l c.in_ok-shown.shown.items) found c.in_ok-shown.ensures.shown;
    }

-- The reports are on files that stay.
use Rattle.std.proofs.Common.{ap, ◌∙◌, map}
use Rattle.std.proofs.lemmas.List.{map-append}
use Rattle.found_reports.specs.Kept.{file_view}
use Rattle.found_reports.proofs.KeptLemmas.{views_more}
use Rattle.found_reports.proofs.reports.FoundReports.add_file.Goals as goal

pub returns-clause-found : goal.returns-clause-found
returns-clause-found c =
    rw (c.in_ok-push.ensures.items, map-append)
    (views_more (map file_view c.self.inside.files.items) _ c.self.inside.reports.items c.self.invariant.1 ∙ ap (λ it. it.found) c.self.view_is)

-- The sides before say nothing over the span.
use Rattle.std.proofs.Common.{◌≡◌, drop, map}
use Rattle.found_reports.specs.Found.{file_at}
use Rattle.json_forms.specs.Finding.{beside_view}
use Rattle.json_reports.specs.Reports.{text_over}
use Rattle.json_reports.proofs.gathered.Gathered.text_over.Given as goal

abbrev pub invariant-loop-side : goal.invariant-loop-side
invariant-loop-side l = text_over l.name (file_at l.self.found.files l.file).held l.head (map beside_view l.sides) ≡ text_over l.name (file_at l.self.found.files l.file).held l.head (map beside_view (drop l.side-index l.sides))

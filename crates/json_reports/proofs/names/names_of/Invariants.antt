-- The names of those before are there; those left are still to come.
use Rattle.std.proofs.Common.{◌≡◌, ◌++◌, None, map, string_bytes, length}
use Rattle.std.specs.List.{filter_map}
use Rattle.std.specs.Option.{option_copied}
use Rattle.json_forms.specs.Finding.{finding_view}
use Rattle.line_reports.specs.Names.{changes}
use Rattle.json_reports.specs.Marks.{file_of}
use Rattle.json_reports.proofs.names.names_of.Given as goal

abbrev pub invariant-loop-rest : goal.invariant-loop-rest
invariant-loop-rest l =
    map string_bytes l.names.items ++ changes (option_copied l.last) (filter_map file_of (map finding_view l.rest)) ≡ changes None (filter_map file_of (map finding_view l.findings))

abbrev pub decreases-loop-rest : goal.decreases-loop-rest
decreases-loop-rest l = length l.rest

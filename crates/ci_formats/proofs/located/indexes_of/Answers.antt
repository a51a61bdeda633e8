-- The text of each file is short.
use Rattle.std.proofs.Common.{◌≡◌, ◌<◌, ◌∙◌, ap, arith, get_or, length, map, subst, sym}
use Rattle.std.proofs.lemmas.List.{get_or-map, length-map}
use Rattle.std.proofs.lemmas.List.Elements.{All-get_or}
use Rattle.found_reports.specs.Held.{held_of}
use Rattle.found_reports.specs.Kept.{IsShort, IsShortHeld, file_view}
use Rattle.ci_formats.proofs.located.indexes_of.Goals as goal

pub from_source_text-requires : goal.from_source_text-requires
from_source_text-requires c =
    let files = c.args.files.now in
    let at = c.loop-file.file-index in
    let file = c.file-item.result in
    let within : at < length (map file_view files) = omega (arith, length-map files file_view, c.loop-file-test.true) in
    let same : get_or (map file_view files) at (file_view file) ≡ file_view file = get_or-map file_view files at file (file_view file) c.loop-file-test.true ∙ ap file_view (sym c.file-item.is) in
    let short : IsShort (file_view file) = subst IsShort same (All-get_or IsShort (map file_view files) at (file_view file) within c.requires) in
    subst IsShortHeld (ap held_of c.in-Ok.is) short

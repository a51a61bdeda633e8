-- An empty source can be read.
use Rattle.std.proofs.Common.{◌≡◌, [], ap, refl, sym, subst}
use Rattle.oxc_handlers.specs.Report.{view_parts}
use Rattle.render_files.proofs.KeptReaders.{can_draw}
use Rattle.report_texts.proofs.RunLemmas.{bare_reads, none_within}
use Rattle.report_texts.proofs.runs.draw_bare.Goals as goal

pub push_view_with_scanner-requires : goal.push_view_with_scanner-requires
push_view_with_scanner-requires c =
    can_draw [] 1 c.of_text-scanner.result (view_parts c.args.view.now) refl (bare_reads c.of_text-scanner.result c.of_text-scanner.ensures) c.requires.source
    (none_within (view_parts c.args.view.now).labels c.requires.labels)

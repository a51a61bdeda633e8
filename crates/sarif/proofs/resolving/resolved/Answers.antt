-- One base less, before the name so far.
use Rattle.std.proofs.Common.{◌∙◌, map, string_bytes, sym, arith}
use Rattle.std.proofs.lemmas.Grind.{common_steps}
use Rattle.std.proofs.lemmas.List.{map-append}
use Rattle.sarif_log.specs.Log.{artifact_location_view, uri_base_view}
use Rattle.sarif.specs.Seen.{borrowed}
use Rattle.sarif.specs.Views.{lent_texts}
use Rattle.sarif.proofs.NamingLemmas.{resolved_to}
use Rattle.sarif.proofs.resolving.resolved.Goals as goal

pub loop-left-preserved : goal.loop-left-preserved
unfolding artifact_location_view uri_base_view
loop-left-preserved c =
    sym (resolved_to c.loop-left.left (map uri_base_view c.args.bases.now)
    (lent_texts c.loop-left.used.items) (lent_texts c.push.new.self.items)
    (borrowed c.loop-left.base) (borrowed c.as_deref-base.result)
    (string_bytes c.loop-left.name) (string_bytes c.in_ok-name-2.name)
    (uri_base_view c.in-Some.next.now)
    (omega arith)
    (grind (arith, common_steps))
    (grind (arith, common_steps, map-append))
    (grind (arith, common_steps))
    (grind (arith, common_steps)))
    ∙ c.loop-left.invariant

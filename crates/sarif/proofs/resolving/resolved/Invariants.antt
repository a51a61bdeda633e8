-- The bases that are left before the name so far.
use Rattle.std.proofs.Common.{◌≡◌, map, string_bytes}
use Rattle.sarif_log.specs.Log.{uri_base_view}
use Rattle.sarif.specs.Seen.{borrowed}
use Rattle.sarif.specs.Naming.{resolved, resolved_in}
use Rattle.sarif.specs.Views.{lent_texts}
use Rattle.sarif.proofs.resolving.resolved.Given as goal

abbrev pub invariant-loop-left : goal.invariant-loop-left
invariant-loop-left l = resolved_in l.left (map uri_base_view l.bases) (lent_texts l.used.items) (borrowed l.base) (string_bytes l.name) ≡ resolved (map uri_base_view l.bases) (borrowed l.fn.base) l.uri

abbrev pub decreases-loop-left : goal.decreases-loop-left
decreases-loop-left l = l.left

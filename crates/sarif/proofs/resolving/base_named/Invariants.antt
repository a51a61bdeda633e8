-- The last one of those that are left, or else of those before.
use Rattle.std.proofs.Common.{◌≡◌, drop, map}
use Rattle.std.specs.Option.{option_or}
use Rattle.sarif_log.specs.Log.{uri_base_view}
use Rattle.sarif.specs.Views.{base_seen}
use Rattle.sarif.specs.Naming.{base_named}
use Rattle.sarif.proofs.resolving.base_named.Given as goal

abbrev pub invariant-loop-base : goal.invariant-loop-base
invariant-loop-base l = option_or (base_named (map uri_base_view (drop l.base-index l.bases)) l.name) (base_seen l.found) ≡ base_named (map uri_base_view l.bases) l.name

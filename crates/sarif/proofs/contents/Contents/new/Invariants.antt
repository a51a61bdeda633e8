-- The contents of the artifacts from here on.
use Rattle.std.proofs.Common.{◌≤◌, drop, length, map}
use Rattle.sarif_log.specs.Log.{artifact_view, names_view}
use Rattle.sarif.specs.Contents.{AreContents}
use Rattle.sarif.proofs.contents.Contents.new.Given as goal

abbrev pub invariant-loop-at : goal.invariant-loop-at
invariant-loop-at l =
    let artifacts = l.names.artifacts.items in
    (l.at ≤ length artifacts) × AreContents (names_view l.names) (map artifact_view (drop l.at artifacts)) l.by_name

abbrev pub decreases-loop-at : goal.decreases-loop-at
decreases-loop-at l = l.at

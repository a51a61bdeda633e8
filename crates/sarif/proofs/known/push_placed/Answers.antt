-- One location more, with its file.
use Rattle.std.proofs.Common.{map, rules}
use Rattle.sarif_log.specs.Log.{location_view}
use Rattle.sarif.specs.Findings.{spot_view}
use Rattle.sarif.specs.Labels.{placed}
use Rattle.sarif.specs.Views.{placed_view, reading_view}
use Rattle.sarif.proofs.KnownLemmas.{placed_one, placed_same, seats_push}
use Rattle.sarif.proofs.known.push_placed.Goals as goal

pub loop-spot-preserved : goal.loop-spot-preserved
unfolding location_view
loop-spot-preserved g c =
    let meant = placed (g.S.Sources.told c.args.sources.now) (reading_view c.args.reading.now) in
    let known = c.loop-spot.known.files.items in
    let more = c.seat_of.new.known.files.items in
    let places = c.loop-spot.placed.items in
    let seat = c.in_ok-seat_of.ensures in
    let before = c.loop-spot.invariant in
    let spot = c.spot-item.result in
    record {
      told = seat.told;
      filed = seat.filed;
      seated = rw c.in_ok-push.ensures.items (seats_push known more places _ seat.grows before.seated seat.within);
      placed = rw c.in_ok-push.ensures.items
          (placed_one known more places _ (map (placed_view c.args.known.now.files.items) c.args.placed.now.items) meant c.args.spots.now c.loop-spot.spot-index spot
          seat.grows before.seated (search rules) (search rules) before.placed
          (placed_same more _ (meant (spot_view spot)) seat.seat (search rules) (search rules)));
      found = search rules;
    }

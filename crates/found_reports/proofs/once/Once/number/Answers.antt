-- The seat has the number, or is given it.
use Rattle.std.proofs.Common.{◌≡◌, ◌<◌, ◌∙◌, arith, length, map}
use Rattle.std.proofs.lemmas.List.{length-map, length-set}
use Rattle.found_reports.specs.Found.{file_at}
use Rattle.found_reports.specs.Kept.{file_view}
use Rattle.found_reports.proofs.OnceLemmas.{file_seen, seat_read, seats_set, with_there}
use Rattle.found_reports.proofs.once.Once.number.Goals as goal

pub returns-in-Some-clause-at : goal.returns-in-Some-clause-at
returns-in-Some-clause-at c =
    let given = map file_view c.args.given.now in
    let seats = c.args.self.now.seats.items in
    let low : c.args.file < length seats = omega (arith, c.requires.given, c.requires.keeps.count, length-map c.args.given.now file_view) in
    seat_read given c.args.self.now.found.files seats c.args.file c.in-Some.number c.index.result.now c.requires.keeps.seats low c.index.ensures c.in-Some.is

pub returns-in-Some-clause-files : goal.returns-in-Some-clause-files
returns-in-Some-clause-files c =
    let given = map file_view c.args.given.now in
    let seats = c.args.self.now.seats.items in
    let low : c.args.file < length seats = omega (arith, c.requires.given, c.requires.keeps.count, length-map c.args.given.now file_view) in
    with_there c.args.self.now.found.files (file_at given c.args.file) c.in-Some.number
    (seat_read given c.args.self.now.found.files seats c.args.file c.in-Some.number c.index.result.now c.requires.keeps.seats low c.index.ensures c.in-Some.is)

pub returns-clause-keeps : goal.returns-clause-keeps
returns-clause-keeps c =
    let given = map file_view c.args.given.now in
    let old = c.args.self.now in
    let seats = old.seats.items in
    let added = c.in_ok-number.ensures in
    let low : c.args.file < length seats = omega (arith, c.requires.given, c.requires.keeps.count, length-map c.args.given.now file_view) in
    let seen : file_view c.index-given-file.result ≡ file_at given c.args.file = file_seen c.args.given.now c.args.file _ c.requires.given c.index-given-file.is in
    rw added.seats record {
      numbers = added.numbers;
      seats = seats_set given old.found.files c.added.new.self.found.files seats c.args.file c.in_ok-number.number low c.requires.keeps.seats (rw seen at added.files) (rw seen at added.at);
      count = length-set seats c.args.file _ ∙ c.requires.keeps.count;
    }

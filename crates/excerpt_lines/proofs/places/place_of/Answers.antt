-- Where the numbers end is known, and so are they.
use Rattle.std.proofs.Common.{◌≡◌, ◌<◌, arith}
use Rattle.excerpt_lines.specs.Places.{HasNoName, HasNoPlace, IsPlace, name_at}
use Rattle.excerpt_lines.proofs.PlaceLemmas.{IsTrail, arrow_there, name_there, no_last, no_name_of_one, no_name_of_two, none_maps, place_of_one, some_maps}
use Rattle.excerpt_lines.proofs.places.place_of.Goals as goal

pub returns-in_default-clause-none : goal.returns-in_default-clause-none
returns-in_default-clause-none c =
    let is : c.run_from-name.result ≡ name_at c.args.line.now = name_there _ _ _ _ c.first_ink-start.ensures.value c.arrow_len-arrow.ensures.value c.run_from-name.ensures.value in
    let trail : IsTrail c.args.line.now c.run_from-name.result c.run_back-end.result = record { from = c.run_back-end.ensures.from; within = c.run_back-end.ensures.to; each = c.run_back-end.ensures.each; stops = c.run_back-end.ensures.stops } in
    no_last _ _ _ is trail c.in_default.ensures.none

pub returns-in-Some-number_before-clause-none : goal.returns-in-Some-number_before-clause-none
returns-in-Some-number_before-clause-none c =
    let is : c.run_from-name.result ≡ name_at c.args.line.now = name_there _ _ _ _ c.first_ink-start.ensures.value c.arrow_len-arrow.ensures.value c.run_from-name.ensures.value in
    let trail : IsTrail c.args.line.now c.run_from-name.result c.run_back-end.result = record { from = c.run_back-end.ensures.from; within = c.run_back-end.ensures.to; each = c.run_back-end.ensures.each; stops = c.run_back-end.ensures.stops } in
    none_maps c.named.result (HasNoName c.args.line.now c.run_from-name.result c.in-Some-number_before.first.colon) (HasNoPlace c.args.line.now)
    (λ none. no_name_of_two _ _ _ _ _ _ _ is trail c.in-Some.ensures.some c.in-Some-number_before.ensures.some none) c.named.ensures.none

pub returns-in-None-clause-some : goal.returns-in-None-clause-some
returns-in-None-clause-some c =
    let is : c.run_from-name.result ≡ name_at c.args.line.now = name_there _ _ _ _ c.first_ink-start.ensures.value c.arrow_len-arrow.ensures.value c.run_from-name.ensures.value in
    let trail : IsTrail c.args.line.now c.run_from-name.result c.run_back-end.result = record { from = c.run_back-end.ensures.from; within = c.run_back-end.ensures.to; each = c.run_back-end.ensures.each; stops = c.run_back-end.ensures.stops } in
    let some : 0 < c.arrow_len-arrow.result = omega arith in
    let arrow = arrow_there _ _ _ c.first_ink-start.ensures.value c.arrow_len-arrow.ensures.value some in
    some_maps c.named-in-None.result _ (IsPlace c.args.line.now)
    (λ p named. place_of_one _ _ _ _ _ p is arrow trail c.in-Some.ensures.some c.in-None.ensures.none named) c.named-in-None.ensures.some

pub returns-in-None-clause-none : goal.returns-in-None-clause-none
returns-in-None-clause-none c =
    let is : c.run_from-name.result ≡ name_at c.args.line.now = name_there _ _ _ _ c.first_ink-start.ensures.value c.arrow_len-arrow.ensures.value c.run_from-name.ensures.value in
    let trail : IsTrail c.args.line.now c.run_from-name.result c.run_back-end.result = record { from = c.run_back-end.ensures.from; within = c.run_back-end.ensures.to; each = c.run_back-end.ensures.each; stops = c.run_back-end.ensures.stops } in
    none_maps c.named-in-None.result (HasNoName c.args.line.now c.run_from-name.result c.in-Some.last.colon) (HasNoPlace c.args.line.now)
    (λ none. no_name_of_one _ _ _ _ _ is trail c.in-Some.ensures.some c.in-None.ensures.none none) c.named-in-None.ensures.none

use Rattle.text_places.proofs.places.TextPlaces.client_place_of.Given as goal

abbrev pub ghosts-client_place_alone : goal.ghosts-client_place_alone
ghosts-client_place_alone a = record { number = a.blank.name; pieces = a.blank.parts }

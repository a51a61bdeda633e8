use Rattle.text_places.proofs.places.TextPlaces.nearest_looked_for.Given as goal

abbrev pub ghosts-nearest_alone : goal.ghosts-nearest_alone
ghosts-nearest_alone a = record { number = a.blank.name; pieces = a.blank.parts }

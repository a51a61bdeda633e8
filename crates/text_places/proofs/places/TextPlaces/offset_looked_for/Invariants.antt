use Rattle.text_places.proofs.places.TextPlaces.offset_looked_for.Given as goal

abbrev pub ghosts-offset_alone : goal.ghosts-offset_alone
ghosts-offset_alone a = record { number = a.blank.name; pieces = a.blank.parts }

use Rattle.text_places.proofs.places.TextPlaces.replace.Given as goal

abbrev pub ghosts-replace_alone : goal.ghosts-replace_alone
ghosts-replace_alone a = record { number = a.blank.name; pieces = a.blank.parts }

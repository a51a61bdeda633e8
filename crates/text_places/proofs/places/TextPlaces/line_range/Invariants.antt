use Rattle.text_places.proofs.places.TextPlaces.line_range.Given as goal

abbrev pub ghosts-line_alone : goal.ghosts-line_alone
ghosts-line_alone a = record { number = a.blank.name; pieces = a.blank.parts }

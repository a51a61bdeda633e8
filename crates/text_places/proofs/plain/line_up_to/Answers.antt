use Rattle.text_places.proofs.plain.line_up_to.Goals as goal

pub returns-in-Some : goal.returns-in-Some
returns-in-Some c text utf8 tells next_tells = c.line_joined.ensures text utf8 tells next_tells

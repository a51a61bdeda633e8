use Rattle.client_text.proofs.client.ClientText.change.Given as goal

abbrev pub ghosts-change_alone : goal.ghosts-change_alone
ghosts-change_alone a = record { number = a.blank.name; pieces = a.blank.parts }

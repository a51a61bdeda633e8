use Rattle.text_tests.proofs.of_oxc_windows.many_reads_look_at_each_byte_once.Given as goal

abbrev pub ghosts-counted : goal.ghosts-counted
ghosts-counted g a = record { number = a.blank.name; pieces = a.blank.parts }

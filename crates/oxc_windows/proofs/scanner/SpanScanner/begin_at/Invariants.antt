use Rattle.oxc_windows.proofs.scanner.SpanScanner.begin_at.Given as goal

abbrev pub ghosts-begin_on_own : goal.ghosts-begin_on_own
ghosts-begin_on_own a = record { number = a.blank.name; pieces = a.blank.parts }

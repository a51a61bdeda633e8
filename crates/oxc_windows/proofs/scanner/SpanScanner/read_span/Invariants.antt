use Rattle.oxc_windows.proofs.scanner.SpanScanner.read_span.Given as goal

abbrev pub ghosts-read_on_own : goal.ghosts-read_on_own
ghosts-read_on_own a = record { number = a.blank.name; pieces = a.blank.parts }

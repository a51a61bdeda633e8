use Rattle.std.proofs.Common.{◌≡◌, ◌∷◌, [], List, refl, ap, length}
use Rattle.oxc_span.specs.declared.span.Span.{Span}
use Rattle.oxc_windows.proofs.TotalLemmas.{row_bound}
use Rattle.text_tests.proofs.of_oxc_windows.four_reads.Goals as goal

pub read_all-requires-clause-index : goal.read_all-requires-clause-index
read_all-requires-clause-index g c = c.new-index.ensures.empty _ _

pub returns : goal.returns
returns g c =
    let spans : List Span = c.new.result ∷ c.new-2.result ∷ c.new-3.result ∷ c.new-4.result ∷ [] in
    let given : spans ≡ record { start = 0; end = 1 } ∷ record { start = 4; end = 5 } ∷ record { start = 2; end = 3 } ∷ record { start = 6; end = 7 } ∷ [] =
    rw (c.new.ensures, c.new-2.ensures, c.new-3.ensures, c.new-4.ensures) refl in
    row_bound _ _ _ spans (ap length c.new-source.ensures) given c.in_ok-found.ensures.total

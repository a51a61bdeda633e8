-- The whole text has only characters that XML can hold.
use Rattle.std.proofs.Common.{◌≡◌, ◌∙◌, ℕ, nat_le, List, [], ◌∷◌, ◌++◌, true, Option, Some, None, ap, arith, codes, decimal}
use Rattle.std.specs.List.{list_all}
use Rattle.std.proofs.lemmas.Bool.{and_parts, leb-true}
use Rattle.ci_formats.specs.Checkstyle.{source_attribute}
use Rattle.ci_formats.specs.Xml.{attribute, shown}
use Rattle.xml_values.specs.Document.{from_no_char}
use Rattle.finding_laws.proofs.CheckstyleLemmas.Attribute.{spelled_out}
use Rattle.finding_laws.proofs.CheckstyleLemmas.Char.{is_quiet, low_on, shown_quiet}
use Rattle.finding_laws.proofs.CheckstyleLemmas.Children.{rows_then}
use Rattle.finding_laws.proofs.CheckstyleLemmas.Value.{decimal_figures, is_figure}

pub figures_quiet : (text rest : List ℕ) → list_all is_figure text ≡ true → is_quiet rest → is_quiet (text ++ rest)
figures_quiet [] rest all quiet = quiet
figures_quiet (x ∷ xs) rest all quiet =
    let parts = and_parts (is_figure x) (list_all is_figure xs) all in
    let mine = and_parts (nat_le 0x30 x) (nat_le x 0x39) parts.0 in
    low_on x (xs ++ rest) (omega (arith, leb-true 0x30 x mine.0)) (omega (arith, leb-true x 0x39 mine.1)) (figures_quiet xs rest parts.1 quiet)

pub decimal_quiet : (n : ℕ) (rest : List ℕ) → is_quiet rest → is_quiet (decimal n ++ rest)
decimal_quiet n rest quiet = figures_quiet (decimal n) rest (decimal_figures n) quiet

pub source_quiet : (code : Option (List ℕ)) (rest : List ℕ) → is_quiet rest → is_quiet (source_attribute code ++ rest)
unfolding attribute
source_quiet None rest quiet = quiet
source_quiet (Some code) rest quiet = ap from_no_char (spelled_out (codes "source") (shown code) rest) ∙ shown_quiet code (0x22 ∷ rest) quiet

pub rows_quiet : {X : Type 0} (behind : X → List ℕ → List ℕ) → ((x : X) (rest : List ℕ) → is_quiet rest → is_quiet (0x3C ∷ behind x rest)) → (xs : List X) (end : List ℕ) → is_quiet end → is_quiet (rows_then behind xs end)
rows_quiet behind each [] end quiet = quiet
rows_quiet behind each (x ∷ xs) end quiet = each x (0x0A ∷ rows_then behind xs end) (rows_quiet behind each xs end quiet)

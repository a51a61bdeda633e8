-- How a run is read: what its names, rows and columns are.
use Rattle.std.specs.Prelude.{ℕ, Bool, ◌==◌, not, List, [], ◌∷◌, filter, length, Option, unwrap_or}
use Rattle.std.specs.Option.{option_or}
use Rattle.sarif_log.specs.declared.log.ColumnKind.{ColumnKind}
use Rattle.sarif_log.specs.declared.log.ColumnKind.TheVariants.{Characters}
use Rattle.sarif_log.specs.Log.{Names, Run}

pub record Reading : Type 0 where
  pub names : Names
  pub columns : ColumnKind
  pub breaks : List (List ℕ)
  pub scope : Option (List ℕ)

abbrev pub is_some_text : List ℕ → Bool
is_some_text text = not (length text == 0)

-- rows end at CRLF, LF and CR
abbrev pub usual_breaks : List (List ℕ)
usual_breaks = (13 ∷ 10 ∷ []) ∷ (10 ∷ []) ∷ (13 ∷ []) ∷ []

abbrev pub breaks_or_usual : List (List ℕ) → List (List ℕ)
breaks_or_usual [] = usual_breaks
breaks_or_usual (it ∷ rest) = it ∷ rest

-- the breaks that a run names, those aside that are empty; the usual ones where there are none
unfoldable pub breaks_of : Option (List (List ℕ)) → List (List ℕ)
breaks_of named = breaks_or_usual (filter is_some_text (unwrap_or named []))

-- what columns count: as the caller says, else as the run says, else characters
unfoldable pub reading_of : Option ColumnKind → Run → Reading
reading_of columns run =
    record {
      names = run.names;
      columns = unwrap_or (option_or columns run.counting.columns) Characters;
      breaks = breaks_of run.counting.newline_sequences;
      scope = run.tool.driver.name;
    }

-- Inputs that are no XML.
use Rattle.std.specs.Prelude.{◌≡◌, ℕ, List, ◌++◌, codes, decimal, Option, None}
use Rattle.xml_values.specs.declared.error.Wanted.{Wanted}
use Rattle.xml_values.specs.Document.{value_of}
use Rattle.xml_values.specs.Words.{wanted_text}

-- the line names a row and a column, and what is wanted there, no clause says which
pub record IsXmlLine (line : List ℕ) : Type 0 where
  pub row : ℕ
  pub column : ℕ
  pub wanted : Wanted
  pub is : line ≡ codes "girzohal: line " ++ (decimal row ++ (codes ", column " ++ (decimal column ++ (codes ": wanted " ++ (wanted_text wanted ++ codes "\n")))))

-- an input is no XML that is read, as the line says
pub record IsNoXml (bytes line : List ℕ) : Type 0 where
  pub none : value_of bytes ≡ None
  pub line_is : IsXmlLine line

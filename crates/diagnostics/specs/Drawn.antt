-- What is drawn of a diagnostic on a named text.
use Rattle.std.specs.Prelude.{ℕ, List, Some}
use Rattle.oxc_protocol.specs.Parts.{OxcParts, Parts, parts_with}

abbrev pub on_text : List ℕ → List ℕ → OxcParts → Parts
on_text name text diagnostic = parts_with diagnostic (Some (record { bytes = text; name = Some name }))

-- A file that the arrays say, by its place.
use Rattle.std.proofs.Common.{◌≡◌, ℕ, ◌<◌, List, [], length, map, get_or, sym, ap, ◌∙◌, arith}
use Rattle.std.proofs.lemmas.List.{length-map, get_or-map}
use Rattle.codespan.specs.Texts.{NamedText, name_of, text_of}
use Rattle.report_arrays.specs.declared.shapes.File.{File}
use Rattle.report_arrays.specs.Texts.{text_of as text_at}
use Rattle.report_arrays.specs.Values.{named}

-- what the list of files holds at a place
file_is : (texts : List ℕ) (files : List File) (id : ℕ) (file : File) (other : NamedText) → id < length (map (named texts) files)
    → file ≡ get_or files id file → get_or (map (named texts) files) id other ≡ named texts file
file_is texts files id file other lt is =
    get_or-map (named texts) files id file other (omega (arith, lt, length-map files (named texts))) ∙ ap (named texts) (sym is)

pub source_is : (texts : List ℕ) (files : List File) (id : ℕ) (file : File) → id < length (map (named texts) files)
    → file ≡ get_or files id file → text_at texts file.source ≡ text_of (map (named texts) files) id
source_is texts files id file lt is =
    sym (ap (λ (it : NamedText). it.text) (file_is texts files id file (record { name = []; text = [] }) lt is))

pub name_is : (texts : List ℕ) (files : List File) (id : ℕ) (file : File) → id < length (map (named texts) files)
    → file ≡ get_or files id file → text_at texts file.name ≡ name_of (map (named texts) files) id
name_is texts files id file lt is =
    sym (ap (λ (it : NamedText). it.name) (file_is texts files id file (record { name = []; text = [] }) lt is))

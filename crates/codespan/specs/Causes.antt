-- Why the database takes no file.
use Rattle.std.specs.Prelude.{◌≡◌, ℕ, List, length, ◌<◌}
use Rattle.codespan.specs.Texts.{NamedText, Fits}
use Rattle.codespan.specs.declared.file.AddError.{AddError}
use Rattle.codespan.specs.declared.file.AddError.TheVariants.{SourceTooLong, TooManyFiles, OutOfMemory}

-- a database that can hold one more file
abbrev pub HasRoom : List NamedText → Type 0
HasRoom files = length files < 4294967295

-- the cause of a refusal to add a text: too long comes first, then too many; want of memory is free
abbrev pub IsCauseToRefuse : List NamedText → List ℕ → AddError → Type 0
IsCauseToRefuse files text (SourceTooLong bytes) = (bytes ≡ length text) × ¬ Fits text
IsCauseToRefuse files text TooManyFiles = Fits text × (length files ≡ 4294967295)
IsCauseToRefuse files text OutOfMemory = Fits text × HasRoom files

-- the cause of a refusal to put a text in the place of another
abbrev pub IsCauseToKeep : List ℕ → AddError → Type 0
IsCauseToKeep text (SourceTooLong bytes) = (bytes ≡ length text) × ¬ Fits text
IsCauseToKeep text TooManyFiles = ⊥
IsCauseToKeep text OutOfMemory = Fits text

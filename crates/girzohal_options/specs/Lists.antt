-- What is said of options that count each time, and of files.
use Rattle.std.specs.Prelude.{ℕ, List, [], ◌∷◌, string_bytes, codes, Option, Some, None, option_and_then}
use Rattle.std.specs.List.{flat_map}
use Rattle.girzohal_options.specs.declared.Output.{Output}
use Rattle.girzohal_options.specs.declared.OutputForm.{OutputForm}
use Rattle.girzohal_options.specs.Said.{Said, file_named, value_under}
use Rattle.girzohal_options.specs.Values.{output_in}

abbrev pub listed : {A : Type 0} → Option A → List A
listed None = []
listed (Some it) = it ∷ []

-- the files that are named
abbrev pub files_in : List Said → List (List ℕ)
files_in all = flat_map (λ it. listed (file_named it)) all

-- the values of an option that is a text
abbrev pub texts_under : List ℕ → List Said → List (List ℕ)
texts_under name all = flat_map (λ it. listed (value_under name it)) all

-- the output that this asks for
abbrev pub output_by : Said → Option (OutputForm × List ℕ)
output_by it = option_and_then output_in (value_under (codes "--output") it)

abbrev pub outputs_in : List Said → List (OutputForm × List ℕ)
outputs_in all = flat_map (λ it. listed (output_by it)) all

abbrev pub output_parts : Output → OutputForm × List ℕ
output_parts it = (it.to, string_bytes it.path)

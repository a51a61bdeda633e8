-- Several outputs of one input.
use Rattle.std.specs.Prelude.{◌≡◌, ⊤, ℕ, ◌≤◌, List, [], ◌∷◌, length, map, Vec, Result, Ok, Err, codes}
use Rattle.std.specs.declared.alloc.Global.{Global}
use Rattle.std.specs.Io.KnownBytes.{Consumes, IsAtEnd}
use Rattle.girzohal_options.specs.declared.Asked.{Asked}
use Rattle.girzohal_run.specs.Told.{Told}
use Rattle.girzohal_run.specs.Run.{Device, HasRisen, IsMadeOf, IsTold, Refuses, Texts, TookTooMuch, limit, texts_of, too_long_line}
use Rattle.girzohal_run.specs.declared.each.Wanted.{Wanted}
use Rattle.girzohal_run.specs.declared.making.Made.{Made}
use Rattle.girzohal_run.specs.declared.status.Status.{Status}
use Rattle.girzohal_run.specs.declared.status.Status.TheVariants.{Clean, Reached, Usage, NoForm, ReadFault, SinkFault, OutOfMemory, InputTooLong}

-- what a run is asked for that writes this output
abbrev pub asked_with : Asked → Wanted → Asked
asked_with asked wanted = record asked { to = wanted.to; theme = wanted.theme }

-- the texts are made of bytes, one for each output, each as by a run that writes that one
abbrev pub AreMade : Told → Asked → List ℕ → List Wanted → List Texts → Type 0
AreMade told asked bytes [] [] = ⊤
AreMade told asked bytes [] (texts ∷ others) = ⊥
AreMade told asked bytes (wanted ∷ more) [] = ⊥
AreMade told asked bytes (wanted ∷ more) (texts ∷ others) = IsMadeOf told (asked_with asked wanted) texts bytes × AreMade told asked bytes more others

-- what stands aside in the first output
abbrev pub first_aside : List Texts → List ℕ
first_aside [] = []
first_aside (texts ∷ others) = texts.aside

-- all was made of bytes, and the error output was told what stands aside; or why nothing was
abbrev pub Judges : Result (Vec Made Global) Status → Asked → List Wanted → List ℕ → Told → Device → Type 0
Judges (Ok made) asked wanted bytes told err = AreMade told asked bytes wanted (map texts_of made.items) × IsTold err (first_aside (map texts_of made.items))
Judges (Err Clean) asked wanted bytes told err = ⊥
Judges (Err Reached) asked wanted bytes told err = ⊥
Judges (Err Usage) asked wanted bytes told err = ⊥
Judges (Err NoForm) asked wanted bytes told err = Refuses asked bytes err
Judges (Err ReadFault) asked wanted bytes told err = ⊥
Judges (Err SinkFault) asked wanted bytes told err = ⊥
Judges (Err OutOfMemory) asked wanted bytes told err = IsTold err (codes "girzohal: out of memory\n")
Judges (Err InputTooLong) asked wanted bytes told err = ⊥

-- the whole input was taken, to its end and within the limit; and these bytes are P
pub record TookAll (input : Device) (P : List ℕ → Type 0) : Type 0 where
  pub bytes : List ℕ
  pub taken : Consumes input.before input.now bytes
  pub ended : IsAtEnd input.now
  pub within : length bytes ≤ limit
  pub is : P bytes

-- what the outputs of a run are, or what the status says of the input
abbrev pub EachMeans : Result (Vec Made Global) Status → Asked → List Wanted → Device → Told → Device → Type 0
-- each is made of the whole input
EachMeans (Ok made) asked wanted input told err = TookAll input (λ bytes. Judges (Ok made) asked wanted bytes told err)
EachMeans (Err Clean) asked wanted input told err = ⊥
EachMeans (Err Reached) asked wanted input told err = ⊥
EachMeans (Err Usage) asked wanted input told err = ⊥
-- the whole input isn't of its form, as the error output was told
EachMeans (Err NoForm) asked wanted input told err = TookAll input (λ bytes. Refuses asked bytes err)
EachMeans (Err ReadFault) asked wanted input told err = HasRisen input × IsTold err (codes "girzohal: input failed\n")
EachMeans (Err SinkFault) asked wanted input told err = ⊥
-- want of memory is free
EachMeans (Err OutOfMemory) asked wanted input told err = IsTold err (codes "girzohal: out of memory\n")
EachMeans (Err InputTooLong) asked wanted input told err = TookTooMuch input × IsTold err too_long_line

-- Several inputs, whose findings are written together.
use Rattle.std.specs.Prelude.{◌≡◌, ⊤, ℕ, ◌-◌, ◌==◌, not, Bool, List, [], ◌∷◌, ◌++◌, length, take, drop, map, Vec, Result, Ok, Err, codes, string_bytes}
use Rattle.std.specs.List.{list_any, suffix_len}
use Rattle.std.specs.declared.alloc.Global.{Global}
use Rattle.harmless.specs.declared.Kind.TheVariants.{Name}
use Rattle.harmless.specs.Harmless.{harmless}
use Rattle.girzohal_options.specs.declared.Asked.{Asked}
use Rattle.girzohal_options.specs.declared.InputForm.{InputForm}
use Rattle.girzohal_run.specs.Told.{Told}
use Rattle.girzohal_run.specs.Each.{asked_with, first_aside}
use Rattle.girzohal_run.specs.Finds.{IsFound}
use Rattle.girzohal_run.specs.Joined.{FindsParts, WritesFound}
use Rattle.girzohal_run.specs.Made.{IsFree, IsOfNoForm, Says}
use Rattle.girzohal_run.specs.Run.{Device, IsTold, Texts, reads_lines, texts_of}
use Rattle.girzohal_run.specs.declared.each.Wanted.{Wanted}
use Rattle.girzohal_run.specs.declared.fault.Fault.{Fault}
use Rattle.girzohal_run.specs.declared.fault.Fault.TheVariants.{NoForm, OutOfMemory}
use Rattle.girzohal_run.specs.declared.making.Made.{Made}
use Rattle.girzohal_run.specs.declared.several.Input.{Input}
use Rattle.girzohal_run.specs.declared.status.Status.{Status}
use Rattle.girzohal_run.specs.declared.status.Status.TheVariants as status

-- ---- what the inputs have

-- the findings of each input, as a run finds them that reads it alone
abbrev pub AreFound : Told → Asked → List Input → List FindsParts → Type 0
AreFound told asked [] [] = ⊤
AreFound told asked [] (it ∷ its) = ⊥
AreFound told asked (input ∷ inputs) [] = ⊥
AreFound told asked (input ∷ inputs) (it ∷ its) = IsFound told asked input.bytes.items it.found it.aside × AreFound told asked inputs its

-- one of the inputs is lines of a tool
abbrev pub have_lines : InputForm → List Input → Bool
have_lines from inputs = list_any (λ input. reads_lines from input.bytes.items) inputs

-- ---- what is written of it

-- of each output
abbrev pub AreWritten : Asked → Bool → List FindsParts → List Wanted → List Texts → Type 0
AreWritten asked notes its [] [] = ⊤
AreWritten asked notes its [] (texts ∷ others) = ⊥
AreWritten asked notes its (wanted ∷ more) [] = ⊥
AreWritten asked notes its (wanted ∷ more) (texts ∷ others) = WritesFound (asked_with asked wanted) notes its texts.out texts.aside texts.reached × AreWritten asked notes its more others

-- ---- why an input is refused

abbrev pub is_inner : ℕ → Bool
is_inner byte = not (byte == 0x0A)

-- where the last line begins, which says why
abbrev pub reason_at : List ℕ → ℕ
reason_at said = let text = take (length said - 1) said in length text - suffix_len is_inner text

-- a line behind the name of the program
unfoldable pub reason_in : List ℕ → List ℕ
reason_in line = drop 10 line

-- what is said, where the line that says why names the input
abbrev pub named_reason : List ℕ → List ℕ → List ℕ
named_reason name said = take (reason_at said) said ++ codes "girzohal: " ++ harmless Name name ++ codes ": " ++ reason_in (drop (reason_at said) said)

abbrev pub IsNamed : List ℕ → Fault → Fault → Type 0
IsNamed name (NoForm said) told = Says (λ text. text ≡ named_reason name said.items) told
IsNamed name OutOfMemory told = IsFree told

-- an input isn't of its form, and this is said of it
pub record IsRefused (asked : Asked) (input : Input) (said : List ℕ) : Type 0 where
  pub why : List ℕ
  pub refused : IsOfNoForm asked input.bytes.items why
  pub said_is : said ≡ named_reason (string_bytes input.name) why

-- the first input that isn't of its form; those before it are
pub record IsFirstRefused (told : Told) (asked : Asked) (inputs : List Input) (said : List ℕ) : Type 0 where
  pub before : List Input
  pub input : Input
  pub after : List Input
  pub parts : inputs ≡ before ++ input ∷ after
  pub its : List FindsParts
  pub found : AreFound told asked before its
  pub refused : IsRefused asked input said

-- ---- the end of a run

-- what the status says of these findings, and of the error output
abbrev pub WritesAll : Result (Vec Made Global) Status → Asked → List Wanted → Bool → List FindsParts → Device → Type 0
WritesAll (Ok made) asked wanted notes its err = AreWritten asked notes its wanted (map texts_of made.items) × IsTold err (first_aside (map texts_of made.items))
WritesAll (Err status.OutOfMemory) asked wanted notes its err = IsTold err (codes "girzohal: out of memory\n")
WritesAll (Err other) asked wanted notes its err = ⊥

-- all inputs were read, each by itself, and all was made of their findings, of which the error output was told what stands aside
pub record WroteAll (made : Vec Made Global) (asked : Asked) (wanted : List Wanted) (inputs : List Input) (told : Told) (err : Device) : Type 0 where
  pub its : List FindsParts
  pub found : AreFound told asked inputs its
  pub written : AreWritten asked (have_lines asked.from inputs) its wanted (map texts_of made.items)
  pub heard : IsTold err (first_aside (map texts_of made.items))

-- the error output was told why the first input is refused that is none
pub record RefusesFirst (asked : Asked) (inputs : List Input) (told : Told) (err : Device) : Type 0 where
  pub said : List ℕ
  pub why : IsFirstRefused told asked inputs said
  pub heard : IsTold err said

-- what the outputs of a run are, or what the status says of the inputs
abbrev pub SeveralMean : Result (Vec Made Global) Status → Asked → List Wanted → List Input → Told → Device → Type 0
SeveralMean (Ok made) asked wanted inputs told err = WroteAll made asked wanted inputs told err
SeveralMean (Err status.Clean) asked wanted inputs told err = ⊥
SeveralMean (Err status.Reached) asked wanted inputs told err = ⊥
SeveralMean (Err status.Usage) asked wanted inputs told err = ⊥
SeveralMean (Err status.NoForm) asked wanted inputs told err = RefusesFirst asked inputs told err
SeveralMean (Err status.ReadFault) asked wanted inputs told err = ⊥
SeveralMean (Err status.SinkFault) asked wanted inputs told err = ⊥
-- want of memory is free
SeveralMean (Err status.OutOfMemory) asked wanted inputs told err = IsTold err (codes "girzohal: out of memory\n")
SeveralMean (Err status.InputTooLong) asked wanted inputs told err = ⊥

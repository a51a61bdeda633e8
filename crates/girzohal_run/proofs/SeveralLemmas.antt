-- Inputs that are read one after another.
use Rattle.std.proofs.Common.{◌≡◌, ℕ, ◌+◌, ◌++◌, ◌<◌, Bool, List, [], ◌∷◌, Result, Ok, Err, Vec, length, take, get_or, map, refl, ap, sym, subst, ◌∙◌, append_assoc, append-nil, string_bytes}
use Rattle.std.proofs.lemmas.List.{map_push, take_more}
use Rattle.std.specs.Result.{IsErrAnd}
use Rattle.std.specs.Prelude.{IfErr}
use Rattle.std.specs.declared.alloc.Global.{Global}
use Rattle.girzohal_options.specs.declared.Asked.{Asked}
use Rattle.girzohal_run.specs.Told.{Told}
use Rattle.girzohal_run.specs.Each.{asked_with}
use Rattle.girzohal_run.specs.Finds.{IsFound}
use Rattle.girzohal_run.specs.Made.{HasCause, IsOfNoForm, Says}
use Rattle.girzohal_run.specs.Run.{Device, Texts, texts_of}
use Rattle.girzohal_run.specs.Joined.{FindsParts, WritesFound}
use Rattle.girzohal_run.specs.Several.{AreFound, AreWritten, IsFirstRefused, IsNamed, IsRefused, SeveralMean, WritesAll, have_lines}
use Rattle.girzohal_run.specs.declared.each.Wanted.{Wanted}
use Rattle.girzohal_run.specs.declared.fault.Fault.{Fault}
use Rattle.girzohal_run.specs.declared.fault.Fault.TheVariants.{NoForm, OutOfMemory}
use Rattle.girzohal_run.specs.declared.making.Made.{Made}
use Rattle.girzohal_run.specs.declared.several.Input.{Input}
use Rattle.girzohal_run.specs.declared.status.Status.{Status}
use Rattle.girzohal_run.specs.declared.status.Status.TheVariants as status

-- ---- one input more

-- the inputs before those that are left have these findings
pub record SoFar (told : Told) (asked : Asked) (inputs left : List Input) (its : List FindsParts) : Type 0 where
  pub before : List Input
  pub parts : inputs ≡ before ++ left
  pub are : AreFound told asked before its

pub none_so_far : (told : Told) (asked : Asked) (inputs : List Input) → SoFar told asked inputs inputs []
none_so_far told asked inputs = record { before = []; parts = refl; are = tt }

one_found : (told : Told) (asked : Asked) (inputs : List Input) (its : List FindsParts) (input : Input) (it : FindsParts) → AreFound told asked inputs its
    → IsFound told asked input.bytes.items it.found it.aside → AreFound told asked (inputs ++ input ∷ []) (its ++ it ∷ [])
one_found told asked [] [] input it are is = (is, tt)
one_found told asked [] (x ∷ xs) input it are is = absurd are
one_found told asked (i ∷ is) [] input it are this = absurd are
one_found told asked (i ∷ is) (x ∷ xs) input it are this = (are.0, one_found told asked is xs input it are.1 this)

pub one_so_far : (told : Told) (asked : Asked) (inputs rest : List Input) (its : List FindsParts) (input : Input) (it : FindsParts) → SoFar told asked inputs (input ∷ rest) its
    → IsFound told asked input.bytes.items it.found it.aside → SoFar told asked inputs rest (its ++ it ∷ [])
one_so_far told asked inputs rest its input it so is =
    record {
      before = so.before ++ input ∷ [];
      parts = so.parts ∙ sym (append_assoc so.before (input ∷ []) rest);
      are = one_found told asked so.before its input it so.are is;
    }

pub all_so_far : (told : Told) (asked : Asked) (inputs : List Input) (its : List FindsParts) → SoFar told asked inputs [] its → AreFound told asked inputs its
all_so_far told asked inputs its so = subst (λ (xs : List Input). AreFound told asked xs its) (sym (so.parts ∙ append-nil so.before)) so.are

pub err_is : {T : Type 0} (P : Fault → Type 0) (x : Fault) (r : Result T Fault) → IsErrAnd r (λ e. e ≡ x) → P x → IfErr r P
err_is P x (Ok value) is p = tt
err_is P x (Err e) is p = subst P (sym is) p

pub refused_by : (asked : Asked) (input : Input) (fault told : Fault) → HasCause (IsOfNoForm asked) input.bytes.items fault → IsNamed (string_bytes input.name) fault told
    → Says (IsRefused asked input) told
refused_by asked input (NoForm why) (NoForm said) cause is = record { why = why.items; refused = cause; said_is = is }
refused_by asked input (NoForm why) OutOfMemory cause is = tt
refused_by asked input OutOfMemory (NoForm said) cause is = absurd is
refused_by asked input OutOfMemory OutOfMemory cause is = tt

pub first_refused : (told : Told) (asked : Asked) (inputs rest : List Input) (its : List FindsParts) (input : Input) (fault : Fault) → SoFar told asked inputs (input ∷ rest) its
    → Says (IsRefused asked input) fault → Says (IsFirstRefused told asked inputs) fault
first_refused told asked inputs rest its input (NoForm said) so refused =
    record { before = so.before; input = input; after = rest; parts = so.parts; its = its; found = so.are; refused = refused }
first_refused told asked inputs rest its input OutOfMemory so refused = tt

-- ---- one output more

one_written : (asked : Asked) (notes : Bool) (its : List FindsParts) (ws : List Wanted) (ts : List Texts) (w : Wanted) (t : Texts) → AreWritten asked notes its ws ts
    → WritesFound (asked_with asked w) notes its t.out t.aside t.reached → AreWritten asked notes its (ws ++ w ∷ []) (ts ++ t ∷ [])
one_written asked notes its [] [] w t are is = (is, tt)
one_written asked notes its [] (x ∷ xs) w t are is = absurd are
one_written asked notes its (v ∷ vs) [] w t are is = absurd are
one_written asked notes its (v ∷ vs) (x ∷ xs) w t are is = (are.0, one_written asked notes its vs xs w t are.1 is)

pub more_written : (asked : Asked) (notes : Bool) (its : List FindsParts) (wanted : List Wanted) (i : ℕ) (d : Wanted) (old new : List Made) (made : Made) → i < length wanted → new ≡ old ++ made ∷ []
    → AreWritten asked notes its (take i wanted) (map texts_of old) → WritesFound (asked_with asked (get_or wanted i d)) notes its (texts_of made).out (texts_of made).aside (texts_of made).reached
    → AreWritten asked notes its (take (i + 1) wanted) (map texts_of new)
more_written asked notes its wanted i d old new made low is are one =
    let texts : map texts_of new ≡ map texts_of old ++ texts_of made ∷ [] = ap (map texts_of) is ∙ map_push texts_of old made in
    subst (λ ts. AreWritten asked notes its (take (i + 1) wanted) ts) (sym texts)
    (subst (λ ws. AreWritten asked notes its ws (map texts_of old ++ texts_of made ∷ [])) (sym (take_more wanted i d low))
    (one_written asked notes its (take i wanted) (map texts_of old) (get_or wanted i d) (texts_of made) are one))

-- ---- the end

pub written_mean : (result : Result (Vec Made Global) Status) (asked : Asked) (wanted : List Wanted) (inputs : List Input) (told : Told) (its : List FindsParts) (err : Device)
    → AreFound told asked inputs its → WritesAll result asked wanted (have_lines asked.from inputs) its err → SeveralMean result asked wanted inputs told err
written_mean (Ok made) asked wanted inputs told its err found writes = record { its = its; found = found; written = writes.0; heard = writes.1 }
written_mean (Err status.Clean) asked wanted inputs told its err found writes = absurd writes
written_mean (Err status.Reached) asked wanted inputs told its err found writes = absurd writes
written_mean (Err status.Usage) asked wanted inputs told its err found writes = absurd writes
written_mean (Err status.NoForm) asked wanted inputs told its err found writes = absurd writes
written_mean (Err status.ReadFault) asked wanted inputs told its err found writes = absurd writes
written_mean (Err status.SinkFault) asked wanted inputs told its err found writes = absurd writes
written_mean (Err status.OutOfMemory) asked wanted inputs told its err found writes = writes
written_mean (Err status.InputTooLong) asked wanted inputs told its err found writes = absurd writes

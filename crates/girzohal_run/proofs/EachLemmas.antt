-- Outputs that are made one after another, and of the whole input.
use Rattle.std.proofs.Common.{◌≡◌, ◌≤◌, ◌<◌, ℕ, ◌+◌, ◌++◌, List, [], ◌∷◌, Result, Ok, Err, Vec, length, take, get_or, map, ap, sym, subst, ◌∙◌}
use Rattle.std.proofs.lemmas.List.{map_push, take_more}
use Rattle.std.specs.declared.alloc.Global.{Global}
use Rattle.std.specs.Io.KnownBytes.{Consumes, IsAtEnd}
use Rattle.girzohal_options.specs.declared.Asked.{Asked}
use Rattle.girzohal_run.specs.Told.{Told}
use Rattle.girzohal_run.specs.Each.{AreMade, EachMeans, Judges, asked_with}
use Rattle.girzohal_run.specs.Run.{Device, IsMadeOf, Texts, limit, texts_of}
use Rattle.girzohal_run.specs.declared.each.Wanted.{Wanted}
use Rattle.girzohal_run.specs.declared.making.Made.{Made}
use Rattle.girzohal_run.specs.declared.status.Status.{Status}
use Rattle.girzohal_run.specs.declared.status.Status.TheVariants.{Clean, Reached, Usage, NoForm, ReadFault, SinkFault, OutOfMemory, InputTooLong}

pub one_more : (told : Told) (asked : Asked) (bytes : List ℕ) (ws : List Wanted) (ts : List Texts) (w : Wanted) (t : Texts) → AreMade told asked bytes ws ts
    → IsMadeOf told (asked_with asked w) t bytes → AreMade told asked bytes (ws ++ w ∷ []) (ts ++ t ∷ [])
one_more told asked bytes [] [] w t are is = (is, tt)
one_more told asked bytes [] (x ∷ xs) w t are is = absurd are
one_more told asked bytes (v ∷ vs) [] w t are is = absurd are
one_more told asked bytes (v ∷ vs) (x ∷ xs) w t are is = (are.0, one_more told asked bytes vs xs w t are.1 is)

pub more_made : (told : Told) (asked : Asked) (bytes : List ℕ) (wanted : List Wanted) (i : ℕ) (d : Wanted) (old new : List Made) (made : Made) → i < length wanted → new ≡ old ++ made ∷ []
    → AreMade told asked bytes (take i wanted) (map texts_of old) → IsMadeOf told (asked_with asked (get_or wanted i d)) (texts_of made) bytes → AreMade told asked bytes (take (i + 1) wanted) (map texts_of new)
more_made told asked bytes wanted i d old new made low is are one =
    let texts : map texts_of new ≡ map texts_of old ++ texts_of made ∷ [] = ap (map texts_of) is ∙ map_push texts_of old made in
    subst (λ ts. AreMade told asked bytes (take (i + 1) wanted) ts) (sym texts)
    (subst (λ ws. AreMade told asked bytes ws (map texts_of old ++ texts_of made ∷ [])) (sym (take_more wanted i d low))
    (one_more told asked bytes (take i wanted) (map texts_of old) (get_or wanted i d) (texts_of made) are one))

pub judged_means : (result : Result (Vec Made Global) Status) (asked : Asked) (wanted : List Wanted) (told : Told) (input err : Device) (bytes : List ℕ) → Consumes input.before input.now bytes
    → IsAtEnd input.now → length bytes ≤ limit → Judges result asked wanted bytes told err → EachMeans result asked wanted input told err
judged_means (Ok made) asked wanted told input err bytes taken ended within judges = record { bytes = bytes; taken = taken; ended = ended; within = within; is = judges }
judged_means (Err Clean) asked wanted told input err bytes taken ended within judges = absurd judges
judged_means (Err Reached) asked wanted told input err bytes taken ended within judges = absurd judges
judged_means (Err Usage) asked wanted told input err bytes taken ended within judges = absurd judges
judged_means (Err NoForm) asked wanted told input err bytes taken ended within judges = record { bytes = bytes; taken = taken; ended = ended; within = within; is = judges }
judged_means (Err ReadFault) asked wanted told input err bytes taken ended within judges = absurd judges
judged_means (Err SinkFault) asked wanted told input err bytes taken ended within judges = absurd judges
judged_means (Err OutOfMemory) asked wanted told input err bytes taken ended within judges = judges
judged_means (Err InputTooLong) asked wanted told input err bytes taken ended within judges = absurd judges

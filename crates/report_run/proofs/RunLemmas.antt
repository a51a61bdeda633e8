-- What was shown of the whole input.
use Rattle.std.proofs.Common.{◌≡◌, ◌≤◌, List, ℕ, length, Option, Some, refl}
use Rattle.std.specs.Io.KnownBytes.{Consumes, IsAtEnd}
use Rattle.report_run.specs.Drawn.{shown}
use Rattle.report_run.specs.Run.{Device, Means, Shows, TookWhole, limit}
use Rattle.report_run.specs.declared.ending.Ending.{Ending}
use Rattle.report_run.specs.declared.ending.Ending.TheVariants.{Done, Refused, Usage, NoDocument, ReadFault, SinkFault, OutOfMemory, InputTooLong}
use Rattle.report_run.specs.declared.words.Command.TheVariants.{Draw}
use Rattle.report_run.specs.declared.look.Look.{Look}
use Rattle.report_run.proofs.TrueLemmas.{true_to_source}

whole_of : {P : List ℕ → Type 0} (input : Device) (bytes : List ℕ) → Consumes input.before input.now bytes → IsAtEnd input.now → length bytes ≤ limit → P bytes → TookWhole input P
whole_of input bytes taken ended within is = record { bytes = bytes; taken = taken; ended = ended; within = within; is = is }

pub shown_means : (how : Ending) (look : Look) (input out : Device) (bytes : List ℕ) → Consumes input.before input.now bytes → IsAtEnd input.now → length bytes ≤ limit
    → Shows how look bytes out → Means how (Some (Draw look.theme look.width look.tabs look.json)) input out
shown_means Done look input out bytes taken ended within shows =
    let document = shows.0 in (
      shown look.theme look.width look.tabs look.json document,
      (document, whole_of input bytes taken ended within shows.1, shows.2, refl, true_to_source look.tabs document.files document.reports shows.2),
      shows.3,
    )
shown_means (Refused why) look input out bytes taken ended within shows = (refl, (shows.0.0, whole_of input bytes taken ended within shows.0.1, shows.0.2), shows.1)
shown_means Usage look input out bytes taken ended within shows = absurd shows
shown_means NoDocument look input out bytes taken ended within shows = (refl, whole_of input bytes taken ended within shows.0, shows.1)
shown_means ReadFault look input out bytes taken ended within shows = absurd shows
shown_means SinkFault look input out bytes taken ended within shows =
    let document = shows.0.0 in (
      (
        shown look.theme look.width look.tabs look.json document,
        (document, whole_of input bytes taken ended within shows.0.1, shows.0.2, refl, true_to_source look.tabs document.files document.reports shows.0.2),
        shows.0.3,
      ),
      shows.1,
    )
shown_means OutOfMemory look input out bytes taken ended within shows = shows
shown_means InputTooLong look input out bytes taken ended within shows = absurd shows

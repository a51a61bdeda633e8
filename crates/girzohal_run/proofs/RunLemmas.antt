-- What was shown of the whole input.
use Rattle.std.proofs.Common.{◌≤◌, inl, List, ℕ, length, refl}
use Rattle.std.specs.Io.KnownBytes.{Consumes, IsAtEnd}
use Rattle.girzohal_options.specs.declared.Asked.{Asked}
use Rattle.girzohal_run.specs.Told.{Told}
use Rattle.girzohal_run.specs.Run.{Device, IsUntouched, Means, Sends, Shows, Texts, IsMadeOf, TookWhole, limit}
use Rattle.girzohal_run.specs.declared.status.Status.{Status}
use Rattle.girzohal_run.specs.declared.status.Status.TheVariants.{Clean, Reached, Usage, NoForm, ReadFault, SinkFault, OutOfMemory, InputTooLong}

whole_of : {P : List ℕ → Type 0} (asked : Asked) (input : Device) (bytes : List ℕ) → Consumes input.before input.now bytes → IsAtEnd input.now → length bytes ≤ limit → P bytes
    → TookWhole asked input P
whole_of asked input bytes taken ended within is = record { bytes = bytes; taken = taken; ended = ended; within = λ some. within; is = is }

pub shown_means : (result : Status) (asked : Asked) (told : Told) (input out err : Device) (bytes : List ℕ) → Consumes input.before input.now bytes → IsAtEnd input.now
    → length bytes ≤ limit → Shows result asked bytes told out err → Means result asked input told out err
shown_means Clean asked told input out err bytes taken ended within shows = whole_of asked input bytes taken ended within shows
shown_means Reached asked told input out err bytes taken ended within shows = whole_of asked input bytes taken ended within shows
shown_means Usage asked told input out err bytes taken ended within shows = absurd shows
shown_means NoForm asked told input out err bytes taken ended within shows = (whole_of asked input bytes taken ended within shows.0, shows.1)
shown_means ReadFault asked told input out err bytes taken ended within shows = absurd shows
shown_means SinkFault asked told input out err bytes taken ended within shows = inl (whole_of asked input bytes taken ended within shows)
shown_means OutOfMemory asked told input out err bytes taken ended within shows = inl shows
shown_means InputTooLong asked told input out err bytes taken ended within shows = absurd shows

-- what was sent of what is made
pub sent_shows : (result : Status) (asked : Asked) (told : Told) (texts : Texts) (out err : Device) (bytes : List ℕ) → IsMadeOf told asked texts bytes
    → Sends result texts out err → Shows result asked bytes told out err
sent_shows Clean asked told texts out err bytes made sends = record { texts = texts; made = made; level = sends.0; written = sends.1; heard = sends.2 }
sent_shows Reached asked told texts out err bytes made sends = record { texts = texts; made = made; level = sends.0; written = sends.1; heard = sends.2 }
sent_shows Usage asked told texts out err bytes made sends = absurd sends
sent_shows NoForm asked told texts out err bytes made sends = absurd sends
sent_shows ReadFault asked told texts out err bytes made sends = absurd sends
sent_shows SinkFault asked told texts out err bytes made sends = record { texts = texts; made = made; written = sends.0; fault = sends.1; heard = sends.2 }
sent_shows OutOfMemory asked told texts out err bytes made sends = absurd sends
sent_shows InputTooLong asked told texts out err bytes made sends = absurd sends

-- with what is sent the output changes
pub sent_touches : {O : Type 0} (result : Status) (texts : Texts) (out err : Device) (old new : O) → Sends result texts out err → IsUntouched result old new
sent_touches Clean texts out err old new sends = λ a b c. absurd (a refl)
sent_touches Reached texts out err old new sends = λ a b c. absurd (b refl)
sent_touches SinkFault texts out err old new sends = λ a b c. absurd (c refl)
sent_touches Usage texts out err old new sends = absurd sends
sent_touches NoForm texts out err old new sends = absurd sends
sent_touches ReadFault texts out err old new sends = absurd sends
sent_touches OutOfMemory texts out err old new sends = absurd sends
sent_touches InputTooLong texts out err old new sends = absurd sends

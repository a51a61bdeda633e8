-- The line on `err` that says how a run ended.
use Rattle.std.specs.Prelude.{◌⊎◌, ℕ, ◌++◌, List, [], Bool, if◌then◌else◌, codes, decimal, Option}
use Rattle.std.specs.Io.KnownBytes.{Appends}
use Rattle.oxc_protocol.specs.Faults.{Rose}
use Rattle.oxc_protocol.specs.Sink.{AppendsPrefix}
use Rattle.render_files.specs.declared.places.ReportError.{ReportError}
use Rattle.render_files.specs.declared.places.ReportError.TheVariants.{UnknownFile, PositionOutside, LabelReversed, SinkFault as sink_fault, OutOfMemory as out_of_memory}
use Rattle.report_run.specs.declared.status.Status.{Status}
use Rattle.report_run.specs.declared.status.Status.TheVariants as status
use Rattle.report_run.specs.declared.ending.Ending.{Ending}
use Rattle.report_run.specs.declared.ending.Ending.TheVariants.{Done, Refused, Usage, NoDocument, ReadFault, SinkFault, OutOfMemory, InputTooLong}

abbrev pub plain_line : List ℕ → List ℕ
plain_line why = codes "report: " ++ why ++ codes "\n"

abbrev pub report_line : ℕ → List ℕ → List ℕ
report_line report why = codes "report: report " ++ decimal report ++ codes ": " ++ why ++ codes "\n"

abbrev pub label_line : ℕ → ℕ → List ℕ → List ℕ
label_line report label why = codes "report: report " ++ decimal report ++ codes ": label " ++ decimal label ++ codes ": " ++ why ++ codes "\n"

abbrev pub reversed_line : ℕ → ℕ → ℕ → ℕ → List ℕ
reversed_line report label start end =
    codes "report: report " ++ decimal report ++ codes ": label " ++ decimal label ++ codes ": end " ++ decimal end
    ++ codes " before start " ++ decimal start ++ codes "\n"

abbrev pub no_position : Bool → List ℕ
no_position at_end = if at_end then codes "end is no position" else codes "start is no position"

-- why reports are refused
abbrev pub refusal_line : ReportError → List ℕ
refusal_line (UnknownFile report) = report_line report (codes "unknown file")
refusal_line (PositionOutside report label at_end) = label_line report label (no_position at_end)
refusal_line (LabelReversed report label start end) = reversed_line report label start end
refusal_line sink_fault = plain_line (codes "output failed")
refusal_line out_of_memory = plain_line (codes "out of memory")

-- how a run ended; nothing is said where it was done
abbrev pub line_of : Ending → List ℕ
line_of Done = []
line_of (Refused why) = refusal_line why
line_of Usage = plain_line (codes "bad arguments")
line_of NoDocument = plain_line (codes "input is no document")
line_of ReadFault = plain_line (codes "input failed")
line_of SinkFault = plain_line (codes "output failed")
line_of OutOfMemory = plain_line (codes "out of memory")
line_of InputTooLong = plain_line (codes "input too long")

-- a sink received these bytes; only where its faults rose, a first part of them
abbrev pub IsTold : Option (List ℕ) → Option (List ℕ) → ℕ → ℕ → List ℕ → Type 0
IsTold before now faults_before faults_now bytes = Appends before now bytes ⊎ (AppendsPrefix before now bytes × Rose faults_before faults_now)

abbrev pub status_of : Ending → Status
status_of Done = status.Done
status_of (Refused why) = status.Refused
status_of Usage = status.Usage
status_of NoDocument = status.NoDocument
status_of ReadFault = status.ReadFault
status_of SinkFault = status.SinkFault
status_of OutOfMemory = status.OutOfMemory
status_of InputTooLong = status.InputTooLong

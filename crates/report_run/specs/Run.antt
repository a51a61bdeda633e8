-- What the end of a run means.
use Rattle.std.specs.Prelude.{◌≡◌, ◌≢◌, ⊤, ℕ, ◌+◌, ◌≤◌, List, length, map, All, IsTrue, Bool, true, false, nat_lt, if◌then◌else◌, Option, Some, None, option_map, unwrap_or}
use Rattle.std.specs.Io.KnownBytes.{Appends, Keeps, Consumes, IsAtEnd}
use Rattle.oxc_protocol.specs.Faults.{Rose}
use Rattle.oxc_protocol.specs.Parts.{Parts}
use Rattle.oxc_protocol.specs.Sink.{AppendsPrefix}
use Rattle.oxc_span.specs.Label.{Label}
use Rattle.oxc_plan.specs.Laws.{HaveRowsOnce, drawn_rows}
use Rattle.oxc_plan.specs.Marks.{DoNotOverlap, marked_cells, row_cells}
use Rattle.oxc_plan.specs.Plan.{in_order, snippets_of, spans_of}
use Rattle.oxc_handlers.specs.Report.{plan_of}
use Rattle.codespan.specs.Texts.{NamedText, text_of}
use Rattle.render_files.specs.Given.{GivenReport}
use Rattle.render_files.specs.Refusal.{refusal_of}
use Rattle.render_files.specs.Rendered.{StandsInFile}
use Rattle.render_files.specs.Shown.{placed_labels, view_of}
use Rattle.documents.specs.Document.{Document, document_of}
use Rattle.report_run.specs.Drawn.{measured, shown}
use Rattle.report_run.specs.Ending.{IsTold, line_of, status_of}
use Rattle.documents.specs.Generated.{generated}
use Rattle.report_run.specs.declared.ending.Ending.{Ending}
use Rattle.report_run.specs.declared.ending.Ending.TheVariants.{Done, Refused, Usage, NoDocument, ReadFault, SinkFault, OutOfMemory, InputTooLong}
use Rattle.report_run.specs.declared.words.Command.{Command}
use Rattle.report_run.specs.declared.look.Look.{Look}
use Rattle.report_run.specs.declared.words.Command.TheVariants.{Draw, Make}
use Rattle.report_run.specs.declared.status.Status.{Status}
use Rattle.report_run.specs.declared.status.Status.TheVariants as status

-- ---- devices

-- the most bytes that a run reads
abbrev pub limit : ℕ
limit = 67108864

-- what a device told and tells of its bytes, and its count of faults before and now
pub record Device : Type 0 where
  pub before : Option (List ℕ)
  pub now : Option (List ℕ)
  pub faults_before : ℕ
  pub faults_now : ℕ

abbrev pub device : {D : Type 0} → (D → Option (List ℕ)) → (D → ℕ) → D → D → Device
device told faults old new = record { before = told old; now = told new; faults_before = faults old; faults_now = faults new }

abbrev pub HasRisen : Device → Type 0
HasRisen it = Rose it.faults_before it.faults_now

-- nothing was taken of it, or it received nothing
abbrev pub IsKept : Device → Type 0
IsKept it = Keeps it.before it.now

-- it received the line that says how the run ended; only where its faults rose, a first part of it
abbrev pub Hears : Device → Ending → Type 0
Hears it how = IsTold it.before it.now it.faults_before it.faults_now (line_of how)

-- the whole input was taken, to its end and within the limit, and these bytes are P
pub record TookWhole (input : Device) (P : List ℕ → Type 0) : Type 0 where
  pub bytes : List ℕ
  pub taken : Consumes input.before input.now bytes
  pub ended : IsAtEnd input.now
  pub within : length bytes ≤ limit
  pub is : P bytes

-- one byte more than the limit was taken, and no further
pub record TookTooMuch (input : Device) : Type 0 where
  pub bytes : List ℕ
  pub taken : Consumes input.before input.now bytes
  pub past : length bytes ≡ limit + 1

-- ---- what a drawing promises of the source

-- the marks of each drawn row whose labels don't overlap are these labels' cells
abbrev pub AreExactlyMarked : ℕ → List ℕ → List Label → Type 0
AreExactlyMarked tabs source labels =
    All (λ plan. DoNotOverlap (row_cells tabs plan.row (spans_of (in_order labels))) → map marked_cells plan.marks ≡ row_cells tabs plan.row (spans_of (in_order labels)))
    (drawn_rows (snippets_of tabs source labels))

-- the labels of a report end within its source, and the plan that is drawn has the snippets of that source and these labels; in
-- them, where CR stands only before LF, each row that a label meets stands once, truly numbered, and labels of a row that don't
-- overlap are marked in exactly their cells
pub record IsTrueToSource (tabs : ℕ) (files : List NamedText) (it : GivenReport) : Type 0 where
  pub stands : StandsInFile files it
  pub plan : (plan_of tabs (view_of files it)).snippets ≡ snippets_of tabs (text_of files it.file) (placed_labels files it)
  pub rows : HaveRowsOnce tabs (text_of files it.file) (placed_labels files it)
  pub marks : AreExactlyMarked tabs (text_of files it.file) (placed_labels files it)

-- ---- the end of a run

-- whether a command reads the input
abbrev pub reads : Option Command → Bool
reads None = false
reads (Some (Make count)) = false
reads (Some (Draw theme width tabs json)) = true

-- the text that a command makes of the input
abbrev pub Makes : Option Command → Device → List ℕ → Type 0
Makes None input text = ⊥
-- the whole input is a document without refusal; the text is its reports, each drawn by its plan, or each as JSON
Makes (Some (Draw theme width tabs json)) input text =
    (document : Document) × TookWhole input (λ bytes. document_of bytes ≡ Some document)
    × (refusal_of document.files document.reports ≡ None)
    × (text ≡ shown theme width tabs json document)
    × All (IsTrueToSource tabs document.files) document.reports
-- nothing is read; the text says how much the drawing of the generated document is
Makes (Some (Make count)) input text =
    (document : Document) × IsKept input × (document_of (generated count) ≡ Some document) × (text ≡ measured count document)

-- what an ending says of the words, of what was read, and of what was written
abbrev pub Means : Ending → Option Command → Device → Device → Type 0
-- the output received the text, whole
Means Done command input out = (text : List ℕ) × Makes command input text × Appends out.before out.now text
-- the whole input is a document, and its reports are refused
Means (Refused why) command input out =
    IsTrue (reads command) × ((document : Document) × TookWhole input (λ bytes. document_of bytes ≡ Some document)
    × (refusal_of document.files document.reports ≡ Some why)) × IsKept out
-- the words are no command
Means Usage command input out = (command ≡ None) × IsKept input × IsKept out
-- the whole input is no document
Means NoDocument command input out = IsTrue (reads command) × TookWhole input (λ bytes. document_of bytes ≡ None) × IsKept out
-- the input failed
Means ReadFault command input out = IsTrue (reads command) × HasRisen input × IsKept out
-- the output failed, and received a first part of the text
Means SinkFault command input out = ((text : List ℕ) × Makes command input text × AppendsPrefix out.before out.now text) × HasRisen out
-- want of memory is free
Means OutOfMemory command input out = IsKept out
-- the input is longer than a run reads
Means InputTooLong command input out = IsTrue (reads command) × TookTooMuch input × IsKept out

-- a status is that of an ending, of which `err` heard
abbrev pub Ends : Status → Option Command → Device → Device → Device → Type 0
Ends result command input out err = (how : Ending) × (result ≡ status_of how) × Means how command input out × Hears err how

-- with every status but those of what is written the output is as it was
abbrev pub IsUntouched : {O : Type 0} → Status → O → O → Type 0
IsUntouched result old new = result ≢ status.Done → result ≢ status.SinkFault → new ≡ old

-- ---- which ending comes

-- how a document, or none, is judged
abbrev pub judged : Option Document → Ending
judged None = NoDocument
judged (Some document) = unwrap_or (option_map (λ why. Refused why) (refusal_of document.files document.reports)) Done

-- the ending that a command, or none, and the input's bytes settle, where nothing fails and memory serves
abbrev pub ending_of : Option Command → List ℕ → Ending
ending_of None bytes = Usage
ending_of (Some (Make count)) bytes = Done
ending_of (Some (Draw theme width tabs json)) bytes = if nat_lt limit (length bytes) then InputTooLong else judged (document_of bytes)

-- the status is the settled one, but for a fault that rose, and for want of memory
abbrev pub Settles : Status → Ending → Device → Device → Type 0
Settles status.ReadFault wanted input out = HasRisen input
Settles status.SinkFault wanted input out = (wanted ≡ Done) × HasRisen out
Settles status.OutOfMemory wanted input out = ⊤
Settles result wanted input out = result ≡ status_of wanted

-- the words are a command, and the input, where it is read, is told and is a document within the limit without refusal
abbrev pub Succeeds : Option Command → Option (List ℕ) → Type 0
Succeeds None told = ⊥
Succeeds (Some (Make count)) told = ⊤
Succeeds (Some (Draw theme width tabs json)) None = ⊥
Succeeds (Some (Draw theme width tabs json)) (Some bytes) = ending_of (Some (Draw theme width tabs json)) bytes ≡ Done

-- ---- a part of a run

-- the end of showing the reports of the document that bytes are
abbrev pub Shows : Ending → Look → List ℕ → Device → Type 0
Shows Done look bytes out =
    (document : Document) × (document_of bytes ≡ Some document) × (refusal_of document.files document.reports ≡ None)
    × Appends out.before out.now (shown look.theme look.width look.tabs look.json document)
Shows (Refused why) look bytes out =
    ((document : Document) × (document_of bytes ≡ Some document) × (refusal_of document.files document.reports ≡ Some why)) × IsKept out
Shows Usage look bytes out = ⊥
Shows NoDocument look bytes out = (document_of bytes ≡ None) × IsKept out
Shows ReadFault look bytes out = ⊥
Shows SinkFault look bytes out =
    ((document : Document) × (document_of bytes ≡ Some document) × (refusal_of document.files document.reports ≡ None)
    × AppendsPrefix out.before out.now (shown look.theme look.width look.tabs look.json document)) × HasRisen out
Shows OutOfMemory look bytes out = IsKept out
Shows InputTooLong look bytes out = ⊥

-- the end of measuring the drawing of the generated document
abbrev pub Measures : Ending → ℕ → Device → Type 0
Measures Done count out =
    (document : Document) × (document_of (generated count) ≡ Some document) × Appends out.before out.now (measured count document)
Measures (Refused why) count out = ⊥
Measures Usage count out = ⊥
Measures NoDocument count out = ⊥
Measures ReadFault count out = ⊥
Measures SinkFault count out =
    ((document : Document) × (document_of (generated count) ≡ Some document) × AppendsPrefix out.before out.now (measured count document)) × HasRisen out
Measures OutOfMemory count out = IsKept out
Measures InputTooLong count out = ⊥

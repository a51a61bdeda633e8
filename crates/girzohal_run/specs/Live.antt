-- How far an input is written as it comes.
use Rattle.std.specs.Prelude.{◌≡◌, ℕ, ◌≤◌, ◌==◌, ◌||◌, ◌++◌, List, length, Bool, true, false, not, Option, Result, Ok, Err, string_bytes, if◌then◌else◌}
use Rattle.std.specs.Io.KnownBytes.{Appends, Consumes}
use Rattle.oxc_protocol.specs.Sink.{AppendsPrefix}
use Rattle.drawn_lines.specs.Coming.{IsBegun, IsComing}
use Rattle.drawn_lines.specs.declared.coming.Come.{Come}
use Rattle.girzohal_options.specs.declared.Asked.{Asked}
use Rattle.girzohal_run.specs.Told.{Told}
use Rattle.girzohal_run.specs.Run.{Device, HasRisen, Means, comes}
use Rattle.girzohal_run.specs.declared.live.Live.{Live}
use Rattle.girzohal_run.specs.declared.status.Status.{Status}

-- the error output received these bytes; or it failed, received a first part of them, and is told nothing any more
abbrev pub Hears : Bool → Device → List ℕ → Type 0
Hears false err bytes = Appends err.before err.now bytes × (err.faults_before ≤ err.faults_now)
Hears true err bytes = AppendsPrefix err.before err.now bytes × HasRisen err

-- the bytes that were taken are lines that are written as they come, whatever comes behind them; of them a text is made and a text stands aside,
-- which the outputs have received; of the front of them it was so already, and at least so many came behind it as are counted
pub record Goes (told : Told) (asked : Asked) (input out err : Device) (live : Live) : Type 0 where
  pub taken : List ℕ
  pub front : List ℕ
  pub behind : List ℕ
  pub parts : taken ≡ front ++ behind
  pub consumed : Consumes input.before input.now taken
  pub lines : (more : List ℕ) → comes asked (taken ++ more) ≡ true
  pub text : List ℕ
  pub aside : List ℕ
  pub known : IsBegun told asked front text aside
  pub coming : IsComing told asked taken text aside live.coming.held live.coming.tally
  pub written : Appends out.before out.now text
  pub later : out.faults_before ≤ out.faults_now
  pub heard : Hears live.deaf err aside
  pub quiet : live.quiet ≤ length behind

-- the same of what is written next, where at least so many bytes came behind the front
pub record Came (told : Told) (asked : Asked) (input out err : Device) (come : Come) (deaf : Bool) (quiet : ℕ) : Type 0 where
  pub taken : List ℕ
  pub front : List ℕ
  pub behind : List ℕ
  pub parts : taken ≡ front ++ behind
  pub consumed : Consumes input.before input.now taken
  pub lines : (more : List ℕ) → comes asked (taken ++ more) ≡ true
  pub text : List ℕ
  pub aside : List ℕ
  pub known : IsBegun told asked front text aside
  pub coming : IsComing told asked taken (text ++ string_bytes come.text) (aside ++ string_bytes come.aside) come.coming.held come.coming.tally
  pub written : Appends out.before out.now text
  pub later : out.faults_before ≤ out.faults_now
  pub heard : Hears deaf err aside
  pub few : quiet ≤ length behind

-- pieces were let go, or something more is written
abbrev pub says_something : Come → Bool
says_something come = come.known || (not (length (string_bytes come.text) == 0) || not (length (string_bytes come.aside) == 0))

-- how many bytes came since something was known, where so many had come before
abbrev pub quiet_of : Come → ℕ → ℕ
quiet_of come before = if says_something come then 0 else before

-- the same device, of what it tells and counts now
abbrev pub device_on : Device → Option (List ℕ) → ℕ → Device
device_on it next count = record it { now = next; faults_now = count }

-- it is written on, or it has ended
abbrev pub Went : Result Live Status → Told → Asked → Device → Device → Device → Type 0
Went (Ok live) told asked input out err = Goes told asked input out err live
Went (Err status) told asked input out err = Means status asked input told out err

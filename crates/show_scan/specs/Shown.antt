-- What `scan` prints (own rules).
use Rattle.std.specs.Prelude.{◌≡◌, ℕ, zero, suc, ◌<◌, ◌==◌, ◌&&◌, Bool, true, false, nat_le, if◌then◌else◌, List, [], ◌++◌, take, Option, Some, None, Ok, codes, decimal}
use Rattle.il_syntax.specs.declared.tree.Config.{Config}
use Rattle.il_semantics.specs.State.{State}
use Rattle.group_spec.specs.declared.event.Event.TheVariants.{Instruction}
use Rattle.group_spec.specs.declared.event.EventFault.{EventFault}
use Rattle.group_spec.specs.declared.trace.TraceEvent.{TraceEvent}
use Rattle.group_spec.specs.Replies.{More, End}
use Rattle.group_spec.specs.Snapshot.{task_name}
use Rattle.group_spec.specs.World.{World, Next, happens, scan_at}
use Rattle.group_journal.specs.Rounds.{TakesAll, IsRefusedAt}
use Rattle.show_scan.specs.declared.chosen.Asked.{Asked}
use Rattle.show_scan.specs.declared.chosen.Chosen.{Chosen}
use Rattle.show_scan.specs.declared.chosen.Lines.{Lines}
use Rattle.show_scan.specs.declared.shown.ScanStop.{ScanStop}
use Rattle.show_scan.specs.declared.shown.ScanStop.TheVariants.{Refused, NoScan, Memory}
use Rattle.show_scan.specs.Chosen.{chosen}
use Rattle.show_scan.specs.Lines.{Seen, seen_of, line_text}

-- the line before which nothing is shown, once a step at a line is there; none where that is the line, or where it was there already
abbrev pub from_behind : Option ℕ → ℕ → Option ℕ
from_behind None line = None
from_behind (Some from) line = if from == line then None else Some from

-- what is asked for, once a step at a line is there
abbrev pub asked_at : Asked → ℕ → Asked
asked_at asked line = record asked { from = from_behind asked.from line }

-- whether a line is one of the unit's that is asked for
abbrev pub is_of_unit : Option Lines → ℕ → Bool
is_of_unit None line = true
is_of_unit (Some lines) line = nat_le lines.first line && nat_le line lines.last

-- whether the line from which on is shown was there
abbrev pub has_begun : Option ℕ → Bool
has_begun None = true
has_begun (Some from) = false

-- whether a step at a line is shown
abbrev pub is_shown : Asked → ℕ → Bool
is_shown asked line = has_begun asked.from && is_of_unit asked.unit line

-- whether a line is the one that is asked for
abbrev pub is_until : Option ℕ → ℕ → Bool
is_until None line = false
is_until (Some until) line = until == line

-- whether nothing more is shown after a step at a line
abbrev pub is_last : Asked → ℕ → Bool
is_last asked line = has_begun asked.from && is_until asked.until line

-- what is known before the next instruction of a task's open scan, if one is left
abbrev pub seen_by_scan : Config → Option State → Option Seen
seen_by_scan c None = None
seen_by_scan c (Some s) = seen_of c s

abbrev pub seen_in : Config → World → ℕ → Option Seen
seen_in c w task = seen_by_scan c (scan_at w task)

-- the line of a step, by what it leaves
abbrev pub line_by : Config → List ℕ → Seen → Option State → List ℕ
line_by c source seen None = []
line_by c source seen (Some s) = line_text c source seen s

-- the line of a step, if it is shown
abbrev pub line_of : Config → List ℕ → Asked → Seen → World → List ℕ
line_of c source asked seen v = if is_shown asked seen.place.line then line_by c source seen (scan_at v asked.task) else []

-- what is asked for after a step at a line, if more is shown
abbrev pub asked_more : Asked → ℕ → Option Asked
asked_more asked line = if is_last asked line then None else Some asked

-- what is shown of a world, where more is shown
abbrev pub rest_if : Option Asked → (Asked → World → List ℕ) → World → List ℕ
rest_if None rest w = []
rest_if (Some asked) rest w = rest asked w

-- what is shown of a step and after it, by what it is answered
abbrev pub behind_reply : Config → List ℕ → Asked → (Asked → World → List ℕ) → Seen → Next → List ℕ
behind_reply c source asked rest seen (Ok (v, More)) = line_of c source asked seen v ++ rest_if (asked_more asked seen.place.line) rest v
behind_reply c source asked rest seen (Ok (v, End)) = line_of c source asked seen v
behind_reply c source asked rest seen _ = []

-- the same, where there is a step
abbrev pub from_seen : Config → List ℕ → Asked → (Asked → World → List ℕ) → World → Option Seen → List ℕ
from_seen c source asked rest w None = []
from_seen c source asked rest w (Some seen) = behind_reply c source (asked_at asked seen.place.line) rest seen (happens c w (Instruction asked.task))

-- A text grows by the line of a step, which leads from a world to another. After it this is asked for, or nothing more is shown.
abbrev pub ShowsNext : Config → Asked → List ℕ → World → World → List ℕ → List ℕ → Option Asked → Type 0
ShowsNext c asked source w v old new more =
    (rest : Asked → World → List ℕ) → old ++ from_seen c source asked rest w (seen_in c w asked.task) ≡ new ++ rest_if more rest v

-- What is asked for of the lines of the next instructions of a task's open scan, so many at most: those of the definitions' world, up to the scan's end or the line after which
-- nothing more is shown.
unfoldable pub lines_text : Config → List ℕ → ℕ → Asked → World → List ℕ
lines_text c source zero asked w = []
lines_text c source (suc fuel) asked w = from_seen c source asked (λ more v. lines_text c source fuel more v) w (seen_in c w asked.task)

-- the heading of a scan
abbrev pub heading : Asked → Chosen → List ℕ
heading asked it = codes "round " ++ (decimal it.round ++ (codes " scan " ++ (task_name asked.task ++ codes "\n")))

-- What is shown of a trace from a world on: the events up to the start of the scan are taken; then come its instructions, at most 1000000, which no scan exceeds.
pub record IsScanShown (c : Config) (opening : World) (asked : Asked) (events : List TraceEvent) (source : List ℕ) (text : List ℕ) : Type 0 where
  pub it : Chosen
  pub is : chosen asked events ≡ Some it
  pub started : World
  pub takes : TakesAll c opening (take it.front events) started
  pub text_is : text ≡ heading asked it ++ lines_text c source 1000000 asked started

-- an event of a trace is refused, the first one, and it is in front of the scan that is asked for, or is its start
pub record IsRefusedInFront (c : Config) (opening : World) (asked : Asked) (events : List TraceEvent) (index : ℕ) (why : EventFault) : Type 0 where
  pub it : Chosen
  pub is : chosen asked events ≡ Some it
  pub early : index < it.front
  pub refused : IsRefusedAt c opening events index why

-- why nothing is shown
abbrev pub IsScanStopped : Config → World → Asked → List TraceEvent → ScanStop → Type 0
IsScanStopped c opening asked events (Refused r) = IsRefusedInFront c opening asked events r.index r.fault
IsScanStopped c opening asked events NoScan = chosen asked events ≡ None
IsScanStopped c opening asked events Memory = Unit {0}

-- A group driven by lines, and what each line leaves (own rules).
use Rattle.std.specs.Prelude.{◌≡◌, ◌≢◌, ◌≤◌, ◌<◌, ℕ, ◌+◌, Bool, Option, true, false, if◌then◌else◌, List, [], ◌∷◌, ◌++◌, length, map, flat_map, string_bytes}
use Rattle.il_syntax.specs.declared.tree.Config.{Config}
use Rattle.group_spec.specs.declared.trace.TraceEvent.{TraceEvent}
use Rattle.group_spec.specs.declared.trace.TraceEvent.TheVariants as traced
use Rattle.group_spec.specs.declared.image.Sizes.{Sizes}
use Rattle.group_spec.specs.World.{World}
use Rattle.trace_text.specs.declared.format.Format.TheVariants.{Two}
use Rattle.trace_text.specs.Text.{line_of, last_line, text_of_lines}
use Rattle.trace_text.specs.Writing.{events_text}
use Rattle.group_journal.specs.Rounds.{floors_rising, tasks_in_order}
use Rattle.std.specs.Io.KnownBytes.{Appends, IsAtEnd}
use Rattle.cli_host.specs.Writes.{AppendsFront}
use Rattle.group_journal.specs.Closed.{IsClosed}
use Rattle.serve_lines.specs.declared.said.Said.{Said}
use Rattle.serve_lines.specs.declared.said.Said.TheVariants.{Round, Press, End}
use Rattle.serve_lines.specs.declared.server.Server.{Server}
use Rattle.serve_lines.specs.declared.server.ServeFault.{ServeFault}
use Rattle.serve_lines.specs.declared.server.ServeFault.TheVariants as fault
use Rattle.trace_text.specs.Reading.{IsOneLine}
use Rattle.serve_lines.specs.declared.serve.Stop.{Stop}
use Rattle.serve_lines.specs.declared.serve.Stop.TheVariants.{Line, Input, Lines}
use Rattle.serve_lines.specs.declared.input.Came.TheVariants.{Whole, Ended, TooLong, Failed}
use Rattle.serve_lines.specs.Coming.{greatest_line}
use Rattle.serve_lines.specs.Saying.{AsksFor, Says, SaysNothing, events_of, scan_events, is_call}
use Rattle.serve_lines.specs.Answers.{stop_line, greatest_answer, Acts}

-- what holds of every server: no scan is open, and it has the texts of its group
pub record IsServer (s : Server) : Type 0 where
  pub closed : IsClosed s.rounds.world.world
  pub gathers : string_bytes s.gathers ≡ events_text (map traced.Gather (floors_rising s.rounds.world.program.config))
  pub scans : string_bytes s.scans ≡ events_text (flat_map scan_events (tasks_in_order s.rounds.world.program.config))
  pub stop : string_bytes s.stop ≡ stop_line s.rounds.world.program.config
  pub short : length (string_bytes s.stop) ≤ greatest_answer

-- THE BLACK BOX

-- The lines that are traced of it, after so many events. The end has the last line of a trace.
abbrev pub traced_text : Config → Said → ℕ → List ℕ
traced_text c (Round fields) count = events_text (events_of c (Round fields))
traced_text c (Press call) count = events_text (events_of c (Press call))
traced_text c End count = last_line count ++ 10 ∷ []

-- the same by the texts of the group, and by its line
abbrev pub record_text : List ℕ → List ℕ → List ℕ → ℕ → Sizes → Said → List ℕ
record_text gathers scans line count sizes (Round fields) = gathers ++ (line ++ (10 ∷ scans))
record_text gathers scans line count sizes (Press call) = if is_call sizes call then line ++ 10 ∷ [] else []
record_text gathers scans line count sizes End = last_line count ++ 10 ∷ []

-- A LINE

-- whether it is the end
abbrev pub is_end : Said → Bool
is_end (Round fields) = false
is_end (Press call) = false
is_end End = true

-- A line says this, which leads from a world to another and is answered so. So much is traced of it, after so many events, and so many are then traced.
pub record Hears (c : Config) (line : List ℕ) (said : Said) (w v : World) (count next : ℕ) (text events : List ℕ) : Type 0 where
  pub says : Says c line said
  pub acts : Acts c said w v text
  pub traced : events ≡ traced_text c said count
  pub counted : next ≡ count + length (events_of c said)

-- so many events can be counted
abbrev pub most_events : ℕ
most_events = 18446744073709551615

-- Why what a line says isn't traced: more events can't be counted, memory is missing, or the trace failed. By then it has the lines before, and at most a front of
-- what is traced of this one.
abbrev pub IsUntraced : Config → Said → ℕ → Option (List ℕ) → Option (List ℕ) → Bool → ServeFault → Type 0
IsUntraced c said count old new failed (fault.WrongLine why) = ⊥
IsUntraced c said count old new failed fault.Trace = (failed ≡ true) × AppendsFront old new (traced_text c said count)
IsUntraced c said count old new failed fault.Output = ⊥
IsUntraced c said count old new failed fault.Memory = AppendsFront old new (traced_text c said count)
IsUntraced c said count old new failed fault.Full = (most_events < count + length (events_of c said)) × Appends old new []

-- Why a line isn't answered, by what the answers and the trace grew, in whole or by a front: it says nothing to the group; the trace failed, and nothing was answered; the output
-- failed, after all that is traced of the line; memory is missing; or the events of the line can't be counted any more.
abbrev pub Unheard : Config → List ℕ → World → ℕ → Bool → Bool → (List ℕ → Type 0) → (List ℕ → Type 0) → (List ℕ → Type 0) → (List ℕ → Type 0) → ServeFault → Type 0
Unheard c line w count out_failed trace_failed Out OutFront Trace TraceFront (fault.WrongLine why) = SaysNothing c line why × Out [] × Trace []
Unheard c line w count out_failed trace_failed Out OutFront Trace TraceFront fault.Trace = (said : Said) × Says c line said × (trace_failed ≡ true) × Out [] × TraceFront (traced_text c said count)
Unheard c line w count out_failed trace_failed Out OutFront Trace TraceFront fault.Output = (said : Said) × (v : World) × (text : List ℕ) × Says c line said × Acts c said w v text × (out_failed ≡ true) × OutFront text × Trace (traced_text c said count)
Unheard c line w count out_failed trace_failed Out OutFront Trace TraceFront fault.Memory = (said : Said) × Says c line said × Out [] × TraceFront (traced_text c said count)
Unheard c line w count out_failed trace_failed Out OutFront Trace TraceFront fault.Full = (said : Said) × Says c line said × (most_events < count + length (events_of c said)) × Out [] × Trace []

-- what follows the head of a trace, in which so many events are: the lines of further events, and the last line
abbrev pub behind_head : ℕ → List TraceEvent → List ℕ
behind_head before events = text_of_lines (map (line_of Two) events ++ last_line (before + length events) ∷ [])

-- ALL LINES

-- Lines lead from a world to another, each of them as it says, which is not the end; they are answered so, one after the other, and so much is traced of them.
abbrev pub Serves : Config → List (List ℕ) → World → ℕ → World → ℕ → List ℕ → List ℕ → Type 0
Serves c [] w count v next text events = (w ≡ v) × (count ≡ next) × (text ≡ []) × (events ≡ [])
Serves c (line ∷ lines) w count v next text events =
    (said : Said) × (m : World) × (k : ℕ) × (first : List ℕ) × (one : List ℕ) × (rest : List ℕ) × (others : List ℕ) × Hears c line said w m count k first one × (is_end said ≡ false) × Serves c lines m k v next rest others × (text ≡ first ++ rest) × (events ≡ one ++ others)

-- how the streams are where serving stops: what the reader has left, where it tells that, and which of the sinks failed
pub record AtStop : Type 0 where
  pub left : Option (List ℕ)
  pub out_failed : Bool
  pub trace_failed : Bool

abbrev pub at_stop : Option (List ℕ) → Bool → Bool → AtStop
at_stop left out_failed trace_failed = record { left = left; out_failed = out_failed; trace_failed = trace_failed }

-- so many lines can be counted, and the number of the one after them
abbrev pub most_lines : ℕ
most_lines = 18446744073709551614

-- Why serving stopped, after so many lines: the next line was whole and was not answered; none came whole, and nothing of it was traced or answered: the input ended, the
-- line was too long, or the reader failed; or no line more can be counted.
abbrev pub IsStoppedBy : Config → World → ℕ → ℕ → AtStop → (List ℕ → Type 0) → (List ℕ → Type 0) → (List ℕ → Type 0) → (List ℕ → Type 0) → (List ℕ → Type 0) → Stop → Type 0
IsStoppedBy c w count heard at Taken Out OutFront Trace TraceFront (Line fault) = (line : List ℕ) × IsOneLine line × ((name : List ℕ) → AsksFor line name → ⊥) × Taken (line ++ 10 ∷ []) × Unheard c line w count at.out_failed at.trace_failed Out OutFront Trace TraceFront fault
IsStoppedBy c w count heard at Taken Out OutFront Trace TraceFront (Input Whole) = ⊥
IsStoppedBy c w count heard at Taken Out OutFront Trace TraceFront (Input Ended) = (line : List ℕ) × IsOneLine line × Taken line × IsAtEnd at.left × Out [] × Trace []
IsStoppedBy c w count heard at Taken Out OutFront Trace TraceFront (Input TooLong) = (line : List ℕ) × (more : ℕ) × IsOneLine line × (length line ≡ greatest_line) × (more ≢ 10) × Taken (line ++ more ∷ []) × Out [] × Trace []
IsStoppedBy c w count heard at Taken Out OutFront Trace TraceFront (Input Failed) = (line : List ℕ) × IsOneLine line × Taken line × Out [] × Trace []
IsStoppedBy c w count heard at Taken Out OutFront Trace TraceFront Lines = (heard ≡ most_lines) × Taken [] × Out [] × Trace []

-- The end was said: the reader gave these lines and then one that says it, and no other of them does.
pub record IsServed (c : Config) (w : World) (count : ℕ) (v : World) (next : ℕ) (Taken Out Trace : List ℕ → Type 0) : Type 0 where
  pub lines : List (List ℕ)
  pub last : List ℕ
  pub taken : Taken (text_of_lines (lines ++ last ∷ []))
  pub behind : World
  pub many : ℕ
  pub text : List ℕ
  pub events : List ℕ
  pub serves : Serves c lines w count behind many text events
  pub answer : List ℕ
  pub ends : List ℕ
  pub hears : Hears c last End behind v many next answer ends
  pub answered : Out (text ++ answer)
  pub traced : Trace (events ++ ends)

-- Another trace was asked for, of this name: the reader gave these lines and then that one. None of these is the end, and with that one so many came, since so many had come before.
pub record IsAsked (c : Config) (w : World) (count : ℕ) (v : World) (next : ℕ) (Taken Out Trace : List ℕ → Type 0) (before : ℕ) (last : List ℕ) (number : ℕ) : Type 0 where
  pub lines : List (List ℕ)
  pub place : number ≡ before + length lines + 1
  pub few : number ≤ most_lines
  pub name : List ℕ
  pub asks : AsksFor last name
  pub taken : Taken (text_of_lines (lines ++ last ∷ []))
  pub text : List ℕ
  pub events : List ℕ
  pub serves : Serves c lines w count v next text events
  pub answered : Out text
  pub traced : Trace events

-- Serving stopped, after so many lines and then lines that were answered and traced, at the line of this number.
pub record IsStopped (c : Config) (w : World) (count before : ℕ) (at : AtStop) (Taken Out OutFront Trace TraceFront : List ℕ → Type 0) (stop : Stop) (number : ℕ) : Type 0 where
  pub lines : List (List ℕ)
  pub place : number ≡ before + length lines + 1
  pub v : World
  pub next : ℕ
  pub text : List ℕ
  pub events : List ℕ
  pub serves : Serves c lines w count v next text events
  pub why : IsStoppedBy c v next (before + length lines) at (λ l. Taken (text_of_lines lines ++ l)) (λ l. Out (text ++ l)) (λ l. OutFront (text ++ l)) (λ l. Trace (events ++ l)) (λ l. TraceFront (events ++ l)) stop

-- A group from where it begins to the end of its lines (own rules).
use Rattle.std.specs.Prelude.{◌≡◌, ℕ, Bool, true, false, List, [], ◌∷◌, ◌++◌, Option}
use Rattle.std.specs.Io.KnownBytes.{Appends, Consumes}
use Rattle.il_syntax.specs.declared.tree.Config.{Config}
use Rattle.group_spec.specs.declared.trace.TraceEvent.{TraceEvent}
use Rattle.group_spec.specs.World.{World}
use Rattle.cli_host.specs.Files.{Made}
use Rattle.cli_host.specs.Writes.{AppendsFront}
use Rattle.group_journal.specs.Rounds.{TakesAll}
use Rattle.trace_text.specs.Text.{last_line}
use Rattle.serve_lines.specs.declared.serve.Stop.{Stop as StopOf}
use Rattle.serve_lines.specs.declared.serve.Stop.TheVariants as stop
use Rattle.serve_lines.specs.declared.server.ServeFault.TheVariants as fault
use Rattle.serve_lines.specs.Answers.{stop_line}
use Rattle.serve_lines.specs.Serving.{IsServed, IsStopped, AtStop, at_stop, behind_head}
use Rattle.serve_blackbox.specs.declared.group.Halt.{Halt}
use Rattle.serve_blackbox.specs.declared.group.Halt.TheVariants as halt
use Rattle.serve_blackbox.specs.declared.keep.KeepFault.{KeepFault}
use Rattle.serve_blackbox.specs.declared.keep.KeepFault.TheVariants as unkept
use Rattle.serve_blackbox.specs.Heads.{head_text}
use Rattle.serve_blackbox.specs.Keeping.{Spot, Leads, IsAskedAt, Turns, kept_line}

-- the bytes are written, or the output failed and has a front of them
abbrev pub Ends : Option (List ℕ) → Option (List ℕ) → Bool → List ℕ → Type 0
Ends old new failed bytes = AppendsFront old new bytes × (failed ≡ false → Appends old new bytes)

-- whether serving stopped since the output failed
abbrev pub is_output_stop : StopOf → Bool
is_output_stop (stop.Line (fault.WrongLine why)) = false
is_output_stop (stop.Line fault.Trace) = false
is_output_stop (stop.Line fault.Output) = true
is_output_stop (stop.Line fault.Memory) = false
is_output_stop (stop.Line fault.Full) = false
is_output_stop (stop.Input c) = false
is_output_stop stop.Lines = false

-- how the streams are in the end: what the reader has left, what was answered, the trace and as which files it was made, and which of the sinks failed
pub record Final : Type 0 where
  pub left : Option (List ℕ)
  pub out : Option (List ℕ)
  pub trace : Option (List ℕ)
  pub made : Made
  pub out_failed : Bool
  pub trace_failed : Bool

-- the same, before the stop was written
abbrev pub before_stop : Final → Option (List ℕ) → Bool → Final
before_stop f out failed = record f { out = out; out_failed = failed }

-- a spot, after what is first in its trace
abbrev pub with_trace : Spot → Option (List ℕ) → Spot
with_trace s trace = record s { trace = trace }

-- these bytes are written to an output, unless that was what failed
abbrev pub StopsAs : Option (List ℕ) → Bool → Option (List ℕ) → Bool → List ℕ → Bool → Type 0
StopsAs old had_failed new failed text true = (new ≡ old) × (failed ≡ had_failed)
StopsAs old had_failed new failed text false = Ends old new failed text

-- the stop is written, unless it was the output that failed
abbrev pub IsStopWritten : Config → Option (List ℕ) → Bool → Final → Bool → Type 0
IsStopWritten c out failed f output = StopsAs out failed f.out f.out_failed (stop_line c) output

-- whether it was the output that failed
abbrev pub is_output : Halt → Bool
is_output halt.Memory = false
is_output halt.Head = false
is_output (halt.Stop s) = is_output_stop s.stop
is_output (halt.Keep unkept.Memory) = false
is_output (halt.Keep unkept.Trace) = false
is_output (halt.Keep unkept.Output) = true

-- TO THE END

-- It came to its end: from this spot on each line that the reader gave was answered, and the trace of each part is that of events which lead to the world after them, so that a replay of it does.
pub record IsEndedFrom (c : Config) (source : List ℕ) (s : Spot) (f : Final) : Type 0 where
  pub m : Spot
  pub leads : Leads c source s m
  pub v : World
  pub next : ℕ
  pub served : IsServed c m.world m.count v next (Consumes m.left f.left) (Appends m.out f.out) (Appends m.trace f.trace)
  pub replays : (events : List TraceEvent) × TakesAll c m.world events v × Appends m.trace f.trace (behind_head m.count events)
  pub made : f.made ≡ m.made

-- the same after this head of its trace
abbrev pub IsEnded : Config → List ℕ → List ℕ → Spot → Final → Type 0
IsEnded c source head s f = (headed : Option (List ℕ)) × Appends s.trace headed head × IsEndedFrom c source (with_trace s headed) f

-- UP TO A STOP

-- Why another trace that was asked for here was not told: memory is missing; the present one failed, and has a front of its last line; or the output failed, with a front of the answer to what came
-- about.
abbrev pub IsUnkept : Config → List ℕ → Spot → List ℕ → Final → KeepFault → Type 0
IsUnkept c source s name f unkept.Memory = (f.out ≡ s.out) × (f.trace ≡ s.trace) × (f.made ≡ s.made)
IsUnkept c source s name f unkept.Trace = (f.trace_failed ≡ true) × (f.out ≡ s.out) × AppendsFront s.trace f.trace (last_line s.count ++ 10 ∷ []) × (f.made ≡ s.made)
IsUnkept c source s name f unkept.Output =
    (f.out_failed ≡ true) × ((kept : Bool) × Turns name (head_text c source s.world) (last_line s.count ++ 10 ∷ []) kept s.trace f.trace s.made f.made × AppendsFront s.out f.out (kept_line name kept))

-- how the streams are where serving stops
abbrev pub stop_at : Final → AtStop
stop_at f = at_stop f.left f.out_failed f.trace_failed

-- From this spot on a line was not answered, or none came, and the stop isn't written yet.
abbrev pub IsHaltedFrom : Config → List ℕ → Spot → Final → Halt → Type 0
IsHaltedFrom c source s f halt.Memory = ⊥
IsHaltedFrom c source s f halt.Head = ⊥
IsHaltedFrom c source s f (halt.Stop h) =
    (m : Spot) × Leads c source s m × IsStopped c m.world m.count m.heard (stop_at f) (Consumes m.left f.left) (Appends m.out f.out) (AppendsFront m.out f.out) (Appends m.trace f.trace) (AppendsFront m.trace f.trace) h.stop h.line × (f.made ≡ m.made)
IsHaltedFrom c source s f (halt.Keep why) =
    (m : Spot) × (a : Spot) × (name : List ℕ) × Leads c source s m × IsAskedAt c m a name × (f.left ≡ a.left) × IsUnkept c source a name f why

-- the same after this head of its trace; then the stop is the last line that was written, after the answers
abbrev pub IsHaltedBehind : Config → List ℕ → List ℕ → Spot → Final → Halt → Type 0
IsHaltedBehind c source head s f why =
    (headed : Option (List ℕ)) × (out : Option (List ℕ)) × (failed : Bool) × Appends s.trace headed head × IsHaltedFrom c source (with_trace s headed) (before_stop f out failed) why × IsStopWritten c out failed f (is_output why)

-- It came to no end. Where memory was missing for the group to open, nothing was written; where the head of the trace couldn't be, the stop is the only line.
abbrev pub IsHalted : Config → List ℕ → List ℕ → Spot → Final → Halt → Type 0
IsHalted c source head s f halt.Memory = Consumes s.left f.left [] × (f.out ≡ s.out) × Appends s.trace f.trace [] × (f.made ≡ s.made)
IsHalted c source head s f halt.Head = Consumes s.left f.left [] × (f.trace_failed ≡ true) × Ends s.out f.out f.out_failed (stop_line c) × AppendsFront s.trace f.trace head × (f.made ≡ s.made)
IsHalted c source head s f (halt.Stop h) = IsHaltedBehind c source head s f (halt.Stop h)
IsHalted c source head s f (halt.Keep why) = IsHaltedBehind c source head s f (halt.Keep why)

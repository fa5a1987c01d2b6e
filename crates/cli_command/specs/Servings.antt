-- What `serve` gives (own rules).
use Rattle.std.specs.Prelude.{◌≡◌, ◌++◌, ℕ, nat_lt, Bool, true, List, [], Option, Some, None, Ok, Err, string_bytes, if◌then◌else◌}
use Rattle.std.specs.Io.KnownBytes.{Consumes}
use Rattle.std.specs.declared.io.traits.Read.{Ghosts as Read}
use Rattle.il_syntax.specs.declared.fault.Refusal.{Refusal}
use Rattle.il_syntax.specs.declared.tree.Config.{Config}
use Rattle.scan_task.specs.Scanning.{Program}
use Rattle.cli_host.specs.declared.files.Cause.TheVariants.{Other}
use Rattle.cli_host.specs.declared.files.ReadFault.{ReadFault}
use Rattle.cli_host.specs.declared.serving.Serving.{Serving}
use Rattle.cli_host.specs.declared.serving.Tracing.{Tracing}
use Rattle.cli_host.specs.declared.sink.Sink.{Ghosts as Sink}
use Rattle.cli_host.specs.declared.status.Fault.{Fault}
use Rattle.cli_host.specs.declared.status.Fault.TheVariants.{Misuse, RefusedText, Refused, BadPress, TooManyPresses, BadFire, BadSpan, BadScan, BadName, CannotRead, CannotWrite, NoMemory}
use Rattle.cli_host.specs.declared.status.Status.{Status}
use Rattle.cli_host.specs.declared.status.Status.TheVariants as with_status
use Rattle.cli_host.specs.Servings.{continued_name}
use Rattle.cli_host.specs.Messages.{fault_of, fault_of_reading, message_of, status_of}
use Rattle.cli_shell.specs.Runs.{Held, written, IsExplained, IsUnreadBelow, most_bytes}
use Rattle.cli_host.specs.Writes.{Writes}
use Rattle.reasons_faults.specs.Reasons.{IsReason}
use Rattle.cli_messages.specs.Places.{IsTextShownBelow}
use Rattle.serve_blackbox.specs.declared.group.Halt.{Halt}
use Rattle.serve_blackbox.specs.declared.group.Halt.TheVariants as halt
use Rattle.serve_blackbox.specs.declared.keep.KeepFault.{KeepFault}
use Rattle.serve_blackbox.specs.declared.keep.KeepFault.TheVariants as unkept
use Rattle.serve_blackbox.specs.Ending.{Final, IsEnded, IsHalted}
use Rattle.serve_blackbox.specs.Keeping.{IsNew, Spot}
use Rattle.cli_host.specs.Files.{Made}
use Rattle.group_spec.specs.World.{World}
use Rattle.serve_lines.specs.declared.input.Came.{Came}
use Rattle.serve_lines.specs.declared.input.Came.TheVariants.{Whole, Ended, TooLong, Failed}
use Rattle.serve_lines.specs.declared.said.WrongLine.{WrongLine}
use Rattle.serve_lines.specs.declared.said.WrongLine.TheVariants.{NoLine, OutOfRange}
use Rattle.serve_lines.specs.declared.serve.Stop.{Stop}
use Rattle.serve_lines.specs.declared.serve.Stop.TheVariants as stop
use Rattle.serve_lines.specs.declared.server.ServeFault.{ServeFault}
use Rattle.serve_lines.specs.declared.server.ServeFault.TheVariants as fault
use Rattle.cli_command.specs.declared.origin.Prepared.{Prepared}
use Rattle.cli_command.specs.Loaded.{IsLoaded}
use Rattle.cli_command.specs.Origins.{IsNoOrigin, IsPrepared}

-- HOW IT ENDS

-- a line that says nothing to the group: it is none of the three, or its fields are out of range
abbrev pub fault_of_wrong : WrongLine → ℕ → Fault
fault_of_wrong NoLine line = Refused 80 line
fault_of_wrong OutOfRange line = Refused 60 line

-- a whole line that was not answered
abbrev pub fault_of_line : ServeFault → ℕ → Fault
fault_of_line (fault.WrongLine why) line = fault_of_wrong why line
fault_of_line fault.Trace line = CannotWrite
fault_of_line fault.Output line = CannotWrite
fault_of_line fault.Memory line = NoMemory
fault_of_line fault.Full line = Refused 70 line

-- a line that did not come whole
abbrev pub fault_of_input : Came → ℕ → Fault
fault_of_input Whole line = Refused 81 line
fault_of_input Ended line = Refused 81 line
fault_of_input TooLong line = Refused 80 line
fault_of_input Failed line = CannotRead Other

abbrev pub fault_of_stop : Stop → ℕ → Fault
fault_of_stop (stop.Line f) line = fault_of_line f line
fault_of_stop (stop.Input came) line = fault_of_input came line
fault_of_stop stop.Lines line = Refused 70 line

-- the number of a line, as far as numbers of lines go
abbrev pub shown_line : ℕ → ℕ
shown_line line = if nat_lt line 4294967295 then line else 4294967295

-- a line that asks for another trace and was not answered
abbrev pub fault_of_keep : KeepFault → Fault
fault_of_keep unkept.Memory = NoMemory
fault_of_keep unkept.Trace = CannotWrite
fault_of_keep unkept.Output = CannotWrite

-- the fault of a group that came to no end
abbrev pub fault_of_halt : Halt → Fault
fault_of_halt halt.Memory = NoMemory
fault_of_halt halt.Head = CannotWrite
fault_of_halt (halt.Stop s) = fault_of_stop s.stop (shown_line s.line)
fault_of_halt (halt.Keep why) = fault_of_keep why

-- THE TRACE

-- a trace before and after: its bytes, where it reports them, and as which files it was made
pub record TraceHeld : Type 0 where
  pub before : Option (List ℕ)
  pub after : Option (List ℕ)
  pub was : Made
  pub is : Made

abbrev pub held_trace : Option (List ℕ) → Option (List ℕ) → Made → Made → TraceHeld
held_trace before after was is = record { before = before; after = after; was = was; is = is }

-- no file was made, and nothing was written to it
pub record IsUntouched (t : TraceHeld) : Type 0 where
  pub unwritten : t.after ≡ t.before
  pub unmade : t.is ≡ t.was

-- It was made as the file of this name, empty. One that reports its bytes at the end reported them from there on.
pub record IsMade (name : List ℕ) (sync : Bool) (t : TraceHeld) (created : Option (List ℕ)) (made : Made) : Type 0 where
  pub named : made.is name sync ≡ true
  pub empty : IsNew created
  pub told : created ≡ None → t.after ≡ None

-- what the program reads and writes, before and after: what is left of the standard input, the two outputs, and the trace, and whether that failed
pub record Streams : Type 0 where
  pub input : Option (List ℕ)
  pub left : Option (List ℕ)
  pub out : Held
  pub err : Held
  pub trace : TraceHeld
  pub trace_failed : Bool

abbrev pub streams : Option (List ℕ) → Option (List ℕ) → Held → Held → TraceHeld → Bool → Streams
streams input left out err trace trace_failed = record { input = input; left = left; out = out; err = err; trace = trace; trace_failed = trace_failed }

-- those of a trace, an input and two outputs, each before and after
abbrev pub between : {T I O E : Type 0} → Sink T → Read I → Sink O → Sink E → T → T → I → I → O → O → E → E → Streams
between trace input out err t u i j o p e f =
    streams (input.remaining i) (input.remaining j) (written out o p) (written err e f) (held_trace (trace.contents t) (trace.contents u) (trace.made t) (trace.made u)) (trace.has_failed u)

-- where a group begins to serve from this world, with so many events in the head of its trace, once that is created
abbrev pub start_of : Streams → World → ℕ → Option (List ℕ) → Made → Spot
start_of s w count created made = record { world = w; count = count; heard = 0; left = s.input; out = s.out.before; trace = created; made = made }

-- how they are in the end
abbrev pub final_of : Streams → Final
final_of s = record { left = s.left; out = s.out.after; trace = s.trace.after; made = s.trace.is; out_failed = s.out.failed; trace_failed = s.trace_failed }

-- these bytes are taken of the input
abbrev pub Takes : Streams → List ℕ → Type 0
Takes s = Consumes s.input s.left

-- these are reported on the standard error
abbrev pub Tells : Streams → List ℕ → Type 0
Tells s = Writes s.err.before s.err.after s.err.failed

-- nothing is taken of the input, no trace is made, and no line is written
pub record NothingServed (s : Streams) : Type 0 where
  pub untraced : IsUntouched s.trace
  pub untaken : Takes s []
  pub unanswered : s.out.after ≡ s.out.before

-- a trace that is wanted is made as the file of its name; otherwise no file is made, and nothing is known of what is put there
abbrev pub IsCreated : Option Tracing → TraceHeld → Option (List ℕ) → Made → Type 0
IsCreated None t created made = (created ≡ t.before) × (made ≡ t.was)
IsCreated (Some tracing) t created made = IsMade tracing.name.now tracing.sync t created made

-- WHAT IT GIVES

-- these are reported on the standard error, one after the other
pub record TellsBoth (s : Streams) (first second : List ℕ) : Type 0 where
  pub between : Option (List ℕ)
  pub failed : Bool
  pub one : Writes s.err.before between failed first
  pub other : Writes between s.err.after s.err.failed second

-- Of a group that is ready: its trace was wanted and could not be created; or its lines were answered and traced, to the end or up to a stop. It is reported how many events were dropped,
-- and the stop's fault.
pub data IsPreparedAnswer (p : Prepared) (source : List ℕ) (tracing : Option Tracing) (s : Streams) (status : Status) : Type 0 where
  uncreated : (wanted : Tracing) → tracing ≡ Some wanted → s.trace_failed ≡ true → NothingServed s → TellsBoth s (string_bytes p.told) (message_of CannotWrite) → status ≡ with_status.CannotWrite → IsPreparedAnswer p source tracing s status
  ended : (created : Option (List ℕ)) → (made : Made) → IsCreated tracing s.trace created made
      → IsEnded p.world.program.config source (string_bytes p.head.text) (start_of s p.world.world p.head.events created made) (final_of s)
      → Tells s (string_bytes p.told) → status ≡ with_status.Done → IsPreparedAnswer p source tracing s status
  halted : (created : Option (List ℕ)) → (made : Made) → IsCreated tracing s.trace created made → (halt : Halt)
      → IsHalted p.world.program.config source (string_bytes p.head.text) (start_of s p.world.world p.head.events created made) (final_of s) halt
      → TellsBoth s (string_bytes p.told) (message_of (fault_of_halt halt)) → status ≡ status_of (fault_of_halt halt) → IsPreparedAnswer p source tracing s status

-- Of a configuration whose text is the source: there is nowhere to begin, and its fault is reported; or its group is ready, at its opening or where a trace ends, and serves.
pub data IsLoadedAnswer (reads : List ℕ → ℕ → List ℕ → Type 0) (fails : List ℕ → ℕ → ReadFault → Type 0) (c : Config) (source : List ℕ) (tracing : Option Tracing) (s : Streams) (status : Status) : Type 0 where
  nowhere : (why : Fault) → IsNoOrigin reads fails c source (continued_name tracing) why → NothingServed s → Tells s (message_of why) → status ≡ status_of why → IsLoadedAnswer reads fails c source tracing s status
  somewhere : (p : Prepared) → p.world.program.config ≡ c → IsPrepared reads c source (continued_name tracing) p → IsPreparedAnswer p source tracing s status → IsLoadedAnswer reads fails c source tracing s status

-- below a refusal of FILE its place, its line, and what is reported of it
abbrev pub IsRefusalBelow : List ℕ → List ℕ → Fault → List ℕ → Type 0
IsRefusalBelow name text (RefusedText number place) below = (reason : List ℕ) × IsReason text number place reason × IsTextShownBelow name text number place reason below
IsRefusalBelow name text (Refused number line) below = below ≡ []
IsRefusalBelow name text (Misuse said) below = below ≡ []
IsRefusalBelow name text (BadPress word) below = below ≡ []
IsRefusalBelow name text TooManyPresses below = below ≡ []
IsRefusalBelow name text (BadFire word) below = below ≡ []
IsRefusalBelow name text (BadSpan word) below = below ≡ []
IsRefusalBelow name text (BadScan why word) below = below ≡ []
IsRefusalBelow name text (BadName word says) below = below ≡ []
IsRefusalBelow name text (CannotRead cause) below = below ≡ []
IsRefusalBelow name text CannotWrite below = below ≡ []
IsRefusalBelow name text NoMemory below = below ≡ []

-- a fault is reported, with what is below it where that is wanted
pub record IsFaultTold (wanted : Bool) (Below : List ℕ → Type 0) (f : Fault) (Told : List ℕ → Type 0) (status : Status) : Type 0 where
  pub said : Fault
  pub below : List ℕ
  pub explained : IsExplained wanted Below f said below
  pub told : Told (message_of said ++ below)
  pub ends : status ≡ status_of said

-- FILE is refused: its fault is reported
abbrev pub IsRefusedAnswer : Bool → List ℕ → List ℕ → Fault → (List ℕ → Type 0) → Status → Type 0
IsRefusedAnswer wanted name text f = IsFaultTold wanted (IsRefusalBelow name text f) f

-- FILE can't be read
abbrev pub IsUnreadAnswer : Bool → List ℕ → ReadFault → (List ℕ → Type 0) → Status → Type 0
IsUnreadAnswer wanted name why = IsFaultTold wanted (IsUnreadBelow name why) (fault_of_reading why)

-- of what was read of FILE: it is refused, no line was taken or written and no trace was made, or it is served
pub data IsTextAnswer (reads : List ℕ → ℕ → List ℕ → Type 0) (fails : List ℕ → ℕ → ReadFault → Type 0) (wanted : Bool) (serving : Serving) (text : List ℕ) (s : Streams) (status : Status) : Type 0 where
  refused : (why : Refusal) → IsLoaded text (Err why) → IsRefusedAnswer wanted serving.file.now text (fault_of why) (Tells s) status → NothingServed s → IsTextAnswer reads fails wanted serving text s status
  accepted : (program : Program) → IsLoaded text (Ok program) → IsLoadedAnswer reads fails program.config text serving.trace s status → IsTextAnswer reads fails wanted serving text s status

-- FILE can't be read, no line was taken or written and no trace was made, or it is read
pub data IsServeAnswer (reads : List ℕ → ℕ → List ℕ → Type 0) (fails : List ℕ → ℕ → ReadFault → Type 0) (wanted : Bool) (serving : Serving) (s : Streams) (status : Status) : Type 0 where
  unread : (why : ReadFault) → fails serving.file.now most_bytes why → IsUnreadAnswer wanted serving.file.now why (Tells s) status → NothingServed s → IsServeAnswer reads fails wanted serving s status
  read : (text : List ℕ) → reads serving.file.now most_bytes text → IsTextAnswer reads fails wanted serving text s status → IsServeAnswer reads fails wanted serving s status

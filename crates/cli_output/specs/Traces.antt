-- What is read of a trace (own rules).
use Rattle.std.specs.Prelude.{◌≡◌, ◌⊎◌, ℕ, List, Some, None}
use Rattle.scan_task.specs.Scanning.{Program}
use Rattle.cli_host.specs.declared.status.Fault.TheVariants as fault
use Rattle.group_spec.specs.declared.trace.TraceEvent.{TraceEvent}
use Rattle.group_spec.specs.World.{World}
use Rattle.group_state.specs.Beginnings.{BeginsTrace, IsUnbegun}

-- A whole trace of a program, whose text is `source`: its events, the world from which they lead, and how many lines come before the first. In formats 1
-- and 2 this world is the opening, and one line is there; in format 3 it is that of the trace's state.
pub record IsRead (program : Program) (source trace : List ℕ) : Type 0 where
  pub from : World
  pub events : List TraceEvent
  pub lines : ℕ
  pub begins : BeginsTrace program.config source trace from events lines None

-- the same of a trace that ends too early, in this line
pub record EndsEarly (program : Program) (source trace : List ℕ) (line : ℕ) : Type 0 where
  pub from : World
  pub events : List TraceEvent
  pub lines : ℕ
  pub begins : BeginsTrace program.config source trace from events lines (Some line)

-- a line of the trace is wrong, or the text ends too early in it, 81
abbrev pub IsLineRefused : Program → List ℕ → List ℕ → ℕ → ℕ → Type 0
IsLineRefused program source trace number line = IsUnbegun program.config source trace (fault.Refused number line) ⊎ ((number ≡ 81) × EndsEarly program source trace line)

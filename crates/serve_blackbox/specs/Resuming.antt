-- Where a trace leads to (own rules).
use Rattle.std.specs.Prelude.{◌≡◌, ◌⊎◌, ℕ, ◌+◌, List, [], ◌∷◌, if◌then◌else◌, nat_lt, Option, Some, None}
use Rattle.il_syntax.specs.declared.tree.Config.{Config}
use Rattle.cli_host.specs.declared.status.Fault.{Fault}
use Rattle.cli_host.specs.declared.status.Fault.TheVariants.{Refused}
use Rattle.group_spec.specs.declared.event.EventFault.{EventFault}
use Rattle.group_spec.specs.declared.trace.TraceEvent.{TraceEvent}
use Rattle.group_spec.specs.EventFaults.{event_fault_number}
use Rattle.group_spec.specs.World.{World}
use Rattle.group_state.specs.Beginnings.{BeginsTrace, IsUnbegun}
use Rattle.serve_lines.specs.Going.{GoesOn, IsBroken}

-- In which line a trace is cut off whose state may not be whole: so many lines come before its events, of which there is none. A state may lack its last lines and still read as one.
abbrev pub unfinished : ℕ → List TraceEvent → Option ℕ → Option ℕ
unfinished lines [] cut = if nat_lt 1 lines then cut else None
unfinished lines (e ∷ events) cut = None

-- A trace of a configuration whose text is the source leads to where a group goes on: this world. So many of its events are dropped, those after its last whole line.
pub record IsLeft (c : Config) (source trace : List ℕ) (w : World) (dropped : ℕ) : Type 0 where
  pub base : World
  pub events : List TraceEvent
  pub lines : ℕ
  pub cut : Option ℕ
  pub begins : BeginsTrace c source trace base events lines cut
  pub whole : unfinished lines events cut ≡ None
  pub goes_on : GoesOn c base events w dropped

-- The events lead nowhere, with this fault: the state before them may not be whole, 81 where it is cut off; or one of them, up to the last whole line, is refused, at its line. So many
-- lines come before the first.
abbrev pub LeadsNowhere : Config → World → List TraceEvent → ℕ → Option ℕ → Fault → Type 0
LeadsNowhere c base events lines cut fault =
    ((line : ℕ) × (unfinished lines events cut ≡ Some line) × (fault ≡ Refused 81 line))
    ⊎ ((index : ℕ) × (why : EventFault) × IsBroken c base events index why × (fault ≡ Refused (event_fault_number why) (lines + 1 + index)))

-- the trace doesn't lead there: it is no trace of the configuration, or its events lead nowhere
abbrev pub IsNotLeft : Config → List ℕ → List ℕ → Fault → Type 0
IsNotLeft c source trace fault =
    IsUnbegun c source trace fault
    ⊎ ((base : World) × (events : List TraceEvent) × (lines : ℕ) × (cut : Option ℕ) × BeginsTrace c source trace base events lines cut × LeadsNowhere c base events lines cut fault)

-- Parts of a trace's beginning, as it is read (own rules).
use Rattle.std.specs.Prelude.{◌≡◌, ◌≢◌, ℕ, ◌+◌, ◌≤◌, List, [], ◌∷◌, ◌++◌, length, Err}
use Rattle.cli_host.specs.declared.status.Fault.{Fault}
use Rattle.cli_host.specs.declared.status.Fault.TheVariants.{Refused, CannotWrite, NoMemory}
use Rattle.trace_text.specs.declared.fault.TraceFault.{TraceFault}
use Rattle.trace_text.specs.declared.fault.TraceFault.TheVariants.{BadLine, Truncated, Write, Memory}
use Rattle.trace_text.specs.Reading.{Reads, greatest_trace}
use Rattle.group_state.specs.declared.fault.StateError.{StateError}
use Rattle.group_state.specs.declared.fault.StateError.TheVariants as error
use Rattle.group_state.specs.Beginnings.{events_text, line_behind}
use Rattle.group_state.specs.Faults.{state_fault_number}
use Rattle.group_state.specs.Text.{first_line}

-- a text that isn't too long is the first line of format 3, and then this, which is something (own rule)
pub record IsStateOf (text state : List ℕ) : Type 0 where
  pub whole : text ≡ first_line ++ (10 ∷ state)
  pub some : state ≢ []
  pub small : length text ≤ greatest_trace

-- the line of a fault of a trace; 0 where it has none (own rule)
abbrev pub fault_line : TraceFault → ℕ
fault_line (BadLine line) = line
fault_line (Truncated line) = line
fault_line Write = 0
fault_line Memory = 0

-- the fault of a trace, where so many lines come before its text (own rule)
abbrev pub fault_behind : ℕ → TraceFault → Fault
fault_behind before (BadLine line) = Refused 80 (line + before)
fault_behind before (Truncated line) = Refused 81 (line + before)
fault_behind before Write = CannotWrite
fault_behind before Memory = NoMemory

-- the line of what is wrong with a state; 0 where memory ran out (own rule)
abbrev pub error_line : StateError → ℕ
error_line (error.Unread wrong) = wrong.line
error_line error.Memory = 0

-- the fault of a state (own rule)
abbrev pub error_fault : StateError → Fault
error_fault (error.Unread wrong) = Refused (state_fault_number wrong.fault) wrong.line
error_fault error.Memory = NoMemory

-- why there are no events in what follows so many lines (own rule)
abbrev pub IsEventless : ℕ → ℕ → List ℕ → Fault → Type 0
IsEventless cars lines rest (Refused number line) =
    (place : ℕ) × Reads cars (events_text rest) (Err (BadLine place)) × (number ≡ 80) × (line ≡ line_behind lines place)
IsEventless cars lines rest NoMemory = Unit {0}
IsEventless cars lines rest _ = ⊥

-- The numbers of the faults of a state (own rule).
use Rattle.std.specs.Prelude.{ℕ}
use Rattle.group_state.specs.declared.fault.StateFault.{StateFault}
use Rattle.group_state.specs.declared.fault.StateFault.TheVariants.{BadLine, Truncated, OutOfRange, NoSuchActor, SameFloor, OtherConfiguration, Interlock, Ticket, NoVariable, OutsideRange}

-- the number that is printed (own rule)
abbrev pub state_fault_number : StateFault → ℕ
state_fault_number BadLine = 80
state_fault_number Truncated = 81
state_fault_number OutOfRange = 60
state_fault_number NoSuchActor = 64
state_fault_number SameFloor = 65
state_fault_number OtherConfiguration = 85
state_fault_number Interlock = 86
state_fault_number Ticket = 87
state_fault_number NoVariable = 88
state_fault_number OutsideRange = 89

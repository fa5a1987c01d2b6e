-- The numbers of refused events (own rule).
use Rattle.std.specs.Prelude.{ℕ}
use Rattle.group_spec.specs.declared.event.EventFault.{EventFault}
use Rattle.group_spec.specs.declared.event.EventFault.TheVariants.{FieldOutOfRange, NoOpenScan, AlreadyOpen, NotAtEnd, NoSuchActor, SameFloor}

-- the number under which a refused event is printed
abbrev pub event_fault_number : EventFault → ℕ
event_fault_number FieldOutOfRange = 60
event_fault_number NoOpenScan = 61
event_fault_number AlreadyOpen = 62
event_fault_number NotAtEnd = 63
event_fault_number NoSuchActor = 64
event_fault_number SameFloor = 65

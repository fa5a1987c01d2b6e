-- The numbers of a station's faults.
use Rattle.std.specs.Prelude.{ℕ}
use Rattle.group_journal.specs.declared.fault.StationFault.{StationFault}
use Rattle.group_journal.specs.declared.fault.StationFault.TheVariants.{FieldOutOfRange, JournalFull, NotOpen, AlreadyOpen}

-- the number of a fault (own rule)
abbrev pub station_fault_number : StationFault → ℕ
station_fault_number FieldOutOfRange = 60
station_fault_number JournalFull = 70
station_fault_number NotOpen = 71
station_fault_number AlreadyOpen = 72

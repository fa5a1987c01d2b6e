-- The numbers of the faults of types (own rule).
use Rattle.std.specs.Prelude.{ℕ, Option, option_map}
use Rattle.load_types.specs.declared.fault.TypeFault.{TypeFault}
use Rattle.load_types.specs.declared.fault.TypeFault.TheVariants.{WrongKind, WrongType, NoResult, NotWritable, UnknownLabel, BackwardJump, Arguments, TwoWriters, Unreachable}

-- the number under which a fault is printed
abbrev pub type_fault_number : TypeFault → ℕ
type_fault_number WrongKind = 30
type_fault_number WrongType = 31
type_fault_number NoResult = 32
type_fault_number NotWritable = 33
type_fault_number UnknownLabel = 34
type_fault_number BackwardJump = 35
type_fault_number Arguments = 37
type_fault_number TwoWriters = 38
type_fault_number Unreachable = 39

-- the number of a fault that may be there
abbrev pub numbered : Option TypeFault → Option ℕ
numbered fault = option_map type_fault_number fault

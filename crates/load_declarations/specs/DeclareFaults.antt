-- The numbers of the faults of declarations (own rule).
use Rattle.std.specs.Prelude.{ℕ}
use Rattle.load_declarations.specs.declared.fault.DeclareFault.{DeclareFault}
use Rattle.load_declarations.specs.declared.fault.DeclareFault.TheVariants.{Duplicate, Unknown, EmptyRange, InitOutOfRange, BadTask, TypeDiffers}

-- the number under which a fault is printed
abbrev pub declare_fault_number : DeclareFault → ℕ
declare_fault_number Duplicate = 20
declare_fault_number Unknown = 21
declare_fault_number EmptyRange = 22
declare_fault_number InitOutOfRange = 23
declare_fault_number BadTask = 24
declare_fault_number TypeDiffers = 25

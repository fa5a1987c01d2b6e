-- The numbers of the faults of ranges (own rule).
use Rattle.std.specs.Prelude.{ℕ}
use Rattle.ranges_pass.specs.declared.fault.RangeFault.{RangeFault}
use Rattle.ranges_pass.specs.declared.fault.RangeFault.TheVariants.{Overflow, ZeroDivisor, Index, Subrange, Argument}

-- the number under which a fault is printed
abbrev pub range_fault_number : RangeFault → ℕ
range_fault_number Overflow = 40
range_fault_number ZeroDivisor = 41
range_fault_number Index = 42
range_fault_number Subrange = 43
range_fault_number Argument = 44

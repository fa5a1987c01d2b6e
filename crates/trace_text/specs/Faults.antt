-- The numbers of the faults of a trace (own rule).
use Rattle.std.specs.Prelude.{ℕ, Option, Some, None}
use Rattle.trace_text.specs.declared.fault.TraceFault.{TraceFault}
use Rattle.trace_text.specs.declared.fault.TraceFault.TheVariants.{BadLine, Truncated, Write, Memory}

-- the number that is printed; out of memory has none
abbrev pub trace_fault_number : TraceFault → Option ℕ
trace_fault_number (BadLine line) = Some 80
trace_fault_number (Truncated line) = Some 81
trace_fault_number Write = Some 82
trace_fault_number Memory = None

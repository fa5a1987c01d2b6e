-- What a refusal says (own rules).
use Rattle.std.specs.Prelude.{ℕ}
use Rattle.il_syntax.specs.declared.fault.Refusal.{Refusal}
use Rattle.il_syntax.specs.declared.fault.Refusal.TheVariants as refusal
use Rattle.cli_host.specs.declared.status.Fault.{Fault}
use Rattle.cli_host.specs.declared.status.Fault.TheVariants.{Refused, NoMemory}
use Rattle.liftplc_c.specs.declared.refusal.TextRefusal.{TextRefusal}

-- OF A TEXT

-- its number and its place
abbrev pub fault_in : TextRefusal → Refusal
fault_in r = refusal.Fault r.number (record { offset = r.offset; line = r.line })

-- the status: 1 of a fault, 2 where memory is missing
abbrev pub text_status : Refusal → ℕ
text_status (refusal.Fault number place) = 1
text_status refusal.Memory = 2

-- OF A TRACE

-- its number and its line
abbrev pub trace_fault_in : TextRefusal → Fault
trace_fault_in r = Refused r.number r.line

-- what can be wrong with a trace: it is refused at a line, or memory is missing
abbrev pub IsOfTrace : Fault → Type 0
IsOfTrace (Refused number line) = Unit {0}
IsOfTrace NoMemory = Unit {0}
IsOfTrace _ = ⊥

-- the status: 10 of a fault, 2 otherwise
abbrev pub trace_status : Fault → ℕ
trace_status (Refused number line) = 10
trace_status _ = 2

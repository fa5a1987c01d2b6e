-- What a refusal says.
use Rattle.std.specs.Prelude.{◌≤◌, Result, Ok, Err}
use Rattle.il_syntax.specs.declared.fault.Refusal.{Refusal}
use Rattle.il_syntax.specs.declared.fault.Refusal.TheVariants.{Fault, Memory}

-- the text was refused, and not because memory ran out
abbrev pub IsFault : {X : Type 0} → Result X Refusal → Type 0
IsFault (Ok x) = ⊥
IsFault (Err (Fault number place)) = Unit {0}
IsFault (Err Memory) = ⊥

-- a fault of the bytes of a text: one of the numbers 1 to 5
abbrev pub IsFaultOfBytes : Refusal → Type 0
IsFaultOfBytes (Fault number place) = (1 ≤ number) × (number ≤ 5)
IsFaultOfBytes Memory = ⊥

-- a refusal that says nothing of the text's length
abbrev pub IsMemoryOrFaultOfBytes : Refusal → Type 0
IsMemoryOrFaultOfBytes (Fault number place) = (1 ≤ number) × (number ≤ 5)
IsMemoryOrFaultOfBytes Memory = Unit {0}

-- The parts of a line, as its reader takes them from its front.
use Rattle.trace_text.specs.declared.fault.TraceFault.{TraceFault}
use Rattle.trace_text.specs.declared.fault.TraceFault.TheVariants.{BadLine}
use Rattle.trace_text.specs.declared.short.Short.{Short}
use Rattle.trace_text.specs.declared.short.Short.TheVariants as short
use Rattle.group_spec.specs.declared.trace.TraceEvent.{TraceEvent}
use Rattle.group_spec.specs.declared.trace.TraceEvent.TheVariants.{Start, Commit}
use Rattle.std.specs.Prelude.{◌≡◌, ◌≢◌, ◌⊎◌, ℕ, ◌+◌, ◌-◌, ◌*◌, List, [], ◌∷◌}
use Rattle.std.specs.Int.{IsInRange}
use Rattle.std.specs.List.{AllByRecursion}

-- the text ends, or its next byte is this one
abbrev pub Ends : ℕ → List ℕ → Type 0
Ends stop [] = Unit {0}
Ends stop (byte ∷ bytes) = byte ≡ stop

abbrev pub AreDigits : List ℕ → Type 0
AreDigits digits = AllByRecursion (IsInRange 48 57) digits

-- the number whose digits are those of a number and then these
abbrev pub number_from : ℕ → List ℕ → ℕ
number_from n [] = n
number_from n (digit ∷ digits) = number_from (10 * n + (digit - 48)) digits

-- some digits, the first 0 only where it is the only one
abbrev pub HasNoLeadingZero : List ℕ → Type 0
HasNoLeadingZero [] = ⊥
HasNoLeadingZero (digit ∷ digits) = digit ≡ 48 → digits ≡ []

-- where a line of no event is wrong: it is not the last one, or something is after it
abbrev pub EndsWrong : Type 0 → List ℕ → ℕ → TraceFault → Type 0
EndsWrong IsLast behind number fault = ((fault ≡ BadLine number) × (IsLast → ⊥)) ⊎ ((fault ≡ BadLine (number + 1)) × IsLast × (behind ≢ []))

-- the event that a short line tells
abbrev pub short_event : Short → TraceEvent
short_event (short.Start t) = Start t
short_event (short.Commit t) = Commit t

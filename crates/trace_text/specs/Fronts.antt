-- What reading the front of a trace gives (own rules).
use Rattle.std.specs.Prelude.{◌≡◌, ℕ, ◌≤◌, List, length, Result, Err, MatchResult}
use Rattle.trace_text.specs.declared.fault.TraceFault.{TraceFault}
use Rattle.trace_text.specs.declared.fault.TraceFault.TheVariants.{BadLine, Truncated, Write, Memory}
use Rattle.trace_text.specs.declared.read.Front.{Front}
use Rattle.trace_text.specs.Reading.{Reads, ReadsFront, IsOneLine, greatest_trace}

-- Why a text has no front: a line that is wrong in the whole text too, or no complete line, not even the first. Out of memory says nothing of the text.
abbrev pub RefusesFront : ℕ → List ℕ → TraceFault → Type 0
RefusesFront cars text (BadLine line) = Reads cars text (Err (BadLine line))
RefusesFront cars text (Truncated line) = (length text ≤ greatest_trace) × IsOneLine text × (line ≡ 1)
RefusesFront cars text Write = ⊥
RefusesFront cars text Memory = Unit {0}

-- the events and where it is cut off, or the fault and its line
abbrev pub FrontAnswers : ℕ → List ℕ → Result Front TraceFault → Type 0
FrontAnswers cars text r = MatchResult r (λ f. ReadsFront cars text f.events f.cut) (RefusesFront cars text)

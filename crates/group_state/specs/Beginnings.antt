-- How a trace begins: what it is read as, and why it isn't (own rules).
use Rattle.std.specs.Prelude.{◌≡◌, ◌≢◌, ℕ, ◌+◌, ◌-◌, ◌≤◌, List, [], ◌∷◌, ◌++◌, length, option_map, Option, Err}
use Rattle.il_syntax.specs.declared.tree.Config.{Config}
use Rattle.cli_host.specs.declared.status.Fault.{Fault}
use Rattle.cli_host.specs.declared.status.Fault.TheVariants.{Refused, NoMemory}
use Rattle.group_spec.specs.declared.trace.TraceEvent.{TraceEvent}
use Rattle.group_spec.specs.Image.{sizes_of}
use Rattle.group_spec.specs.World.{World, opening}
use Rattle.trace_text.specs.declared.fault.TraceFault.{TraceFault}
use Rattle.trace_text.specs.declared.fault.TraceFault.TheVariants.{BadLine, Truncated, Write, Memory}
use Rattle.trace_text.specs.declared.format.Format.TheVariants.{Two}
use Rattle.trace_text.specs.Fronts.{RefusesFront}
use Rattle.trace_text.specs.Reading.{Reads, ReadsFront, greatest_trace}
use Rattle.trace_text.specs.Text.{first_line as trace_line}
use Rattle.group_world.specs.Setting.{resting}
use Rattle.group_state.specs.declared.fault.Wrong.{Wrong}
use Rattle.group_state.specs.Faults.{state_fault_number}
use Rattle.group_state.specs.Reading.{Begun, IsState, IsNoState}
use Rattle.group_state.specs.Text.{first_line}
use Rattle.sha2.specs.Sha256.{sha256}

-- LINES BEHIND A STATE

-- the lines of events after a state, as those of a text of format 2 (own rule)
abbrev pub events_text : List ℕ → List ℕ
events_text rest = trace_line Two ++ (10 ∷ rest)

-- The line of the whole text that is this one of the events' text, where so many lines come before the first event. In a text of format 2 that is one line (own rule).
abbrev pub line_behind : ℕ → ℕ → ℕ
line_behind lines line = line + (lines - 1)

-- a text is too long for a trace, doesn't begin with the line `LIFTTRACE 3`, or has nothing after it (own rule)
abbrev pub HasNoState : List ℕ → Type 0
HasNoState text = (state : List ℕ) → text ≡ first_line ++ (10 ∷ state) → state ≢ [] → length text ≤ greatest_trace → ⊥

-- WHAT A TRACE IS READ AS

-- A trace of a configuration whose text is the source: from this world these events lead, after so many lines. Where the text is cut off, it ends in that line (own rule).
pub data BeginsTrace (c : Config) (source text : List ℕ) (w : World) (events : List TraceEvent) (lines : ℕ) (cut : Option ℕ) : Type 0 where
  -- in format 1 or 2 the world is the opening, and the events are after the first line
  opens : w ≡ opening c → lines ≡ 1 → ReadsFront (sizes_of c).cars text events cut → BeginsTrace c source text w events lines cut
  -- in format 3 the world is that of the state, and the events are after its lines
  goes_on :
      (state : List ℕ) → (begun : Begun) → text ≡ first_line ++ (10 ∷ state) → length text ≤ greatest_trace → IsState c (sha256 source) state begun → w ≡ resting c begun.group → lines ≡ begun.lines
      → (place : Option ℕ) → ReadsFront (sizes_of c).cars (events_text begun.rest) events place → cut ≡ option_map (line_behind lines) place → BeginsTrace c source text w events lines cut

-- WHY IT ISN'T

-- number and line of a fault of a trace (own rule)
abbrev pub IsNumbered : TraceFault → ℕ → ℕ → Type 0
IsNumbered (BadLine place) number line = (number ≡ 80) × (line ≡ place)
IsNumbered (Truncated place) number line = (number ≡ 81) × (line ≡ place)
IsNumbered Write number line = ⊥
IsNumbered Memory number line = ⊥

-- A text is refused with a number at a line (own rule).
pub data IsRefusedAt (c : Config) (source text : List ℕ) (number line : ℕ) : Type 0 where
  -- it is no trace of format 1 or 2, and no front of one: 80 at its first wrong line, or at line 1 of a text that is too long; 81 at line 1 of a text without a line feed
  no_trace : HasNoState text → (why : TraceFault) → RefusesFront (sizes_of c).cars text why → IsNumbered why number line → IsRefusedAt c source text number line
  -- the state of format 3 is none: the number of its first wrong line
  no_state :
      (state : List ℕ) → (wrong : Wrong) → text ≡ first_line ++ (10 ∷ state) → state ≢ [] → length text ≤ greatest_trace → IsNoState c (sha256 source) state wrong → number ≡ state_fault_number wrong.fault → line ≡ wrong.line
      → IsRefusedAt c source text number line
  -- after the state there is a line that is wrong in a text of format 2: 80
  no_events :
      (state : List ℕ) → (begun : Begun) → text ≡ first_line ++ (10 ∷ state) → length text ≤ greatest_trace → IsState c (sha256 source) state begun
      → (place : ℕ) → Reads (sizes_of c).cars (events_text begun.rest) (Err (BadLine place)) → number ≡ 80 → line ≡ line_behind begun.lines place → IsRefusedAt c source text number line

-- Why a trace isn't read; out of memory says nothing of the text, and no other fault comes (own rule).
abbrev pub IsUnbegun : Config → List ℕ → List ℕ → Fault → Type 0
IsUnbegun c source text (Refused number line) = IsRefusedAt c source text number line
IsUnbegun c source text NoMemory = Unit {0}
IsUnbegun c source text _ = ⊥

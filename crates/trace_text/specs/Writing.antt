-- What writing a trace leaves in its sink, line by line.
use Rattle.std.specs.Prelude.{◌≡◌, ℕ, Bool, true, List, ◌++◌, map, Option, Result, MatchResult}
use Rattle.std.specs.Io.KnownBytes.{Appends}
use Rattle.group_spec.specs.declared.trace.TraceEvent.{TraceEvent}
use Rattle.cli_host.specs.Writes.{AppendsFront}
use Rattle.trace_text.specs.declared.format.Format.TheVariants.{Two}
use Rattle.trace_text.specs.Text.{line_of, text_of_lines}

-- the lines that are written of events
abbrev pub events_text : List TraceEvent → List ℕ
events_text events = text_of_lines (map (line_of Two) events)

-- what the sink took since, and then what waits, is the text
abbrev pub IsWritten : Option (List ℕ) → Option (List ℕ) → List ℕ → List ℕ → Type 0
IsWritten old new waiting text = (taken : List ℕ) × Appends old new taken × (taken ++ waiting ≡ text)

-- the bytes are written after those that waited, or the sink failed
abbrev pub Puts : {X E : Type 0} → Result X E → Option (List ℕ) → Option (List ℕ) → Bool → Bool → List ℕ → List ℕ → List ℕ → Type 0
Puts result old new failed fails before waiting bytes =
    MatchResult result (λ _. IsWritten old new waiting (before ++ bytes) × (fails ≡ failed)) (λ _. AppendsFront old new (before ++ bytes) × (fails ≡ true))

-- the bytes are in the sink, or it failed and has a prefix of them
abbrev pub Wrote : {X E : Type 0} → Result X E → Option (List ℕ) → Option (List ℕ) → Bool → Bool → List ℕ → Type 0
Wrote result old new failed fails bytes = MatchResult result (λ _. Appends old new bytes × (fails ≡ failed)) (λ _. AppendsFront old new bytes × (fails ≡ true))

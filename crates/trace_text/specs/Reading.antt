-- What reading a trace gives (own rules).
use Rattle.std.specs.Prelude.{◌≡◌, ◌≢◌, ◌⊎◌, ℕ, ◌+◌, ◌-◌, ◌<◌, ◌≤◌, List, [], ◌∷◌, ◌++◌, length, map, take, Option, Some, None, Result, Ok, Err}
use Rattle.std.specs.List.{AllByRecursion}
use Rattle.group_spec.specs.declared.trace.TraceEvent.{TraceEvent}
use Rattle.trace_text.specs.declared.format.Format.{Format}
use Rattle.trace_text.specs.declared.fault.TraceFault.{TraceFault}
use Rattle.trace_text.specs.declared.fault.TraceFault.TheVariants.{BadLine, Truncated, Write, Memory}
use Rattle.trace_text.specs.Text.{first_line, line_of, trace_lines, text_of_lines, AreTraced, Format1, Format2}

-- in bytes
abbrev pub greatest_trace : ℕ
greatest_trace = 67108864

-- a byte isn't there
abbrev pub Without : ℕ → List ℕ → Type 0
Without stop bytes = AllByRecursion (λ byte. byte ≢ stop) bytes

-- without a line feed
abbrev pub IsOneLine : List ℕ → Type 0
IsOneLine line = Without 10 line

-- a text is its complete lines, and the piece after the last line feed
pub record Splits (text : List ℕ) (lines : List (List ℕ)) (piece : List ℕ) : Type 0 where
  pub whole : text ≡ text_of_lines lines ++ piece
  pub each_line : AllByRecursion IsOneLine lines
  pub last_piece : IsOneLine piece

-- the lines are those of a whole trace of a group of so many cars, in one of the formats
pub record AreTrace (cars : ℕ) (lines : List (List ℕ)) : Type 0 where
  pub format : Format
  pub events : List TraceEvent
  pub traced : AreTraced format cars events
  pub spelled : lines ≡ trace_lines format events

-- the lines begin a trace: with some lines after them they are a whole one
abbrev pub Begin : ℕ → List (List ℕ) → Type 0
Begin cars lines = (rest : List (List ℕ)) × AreTrace cars (lines ++ rest)

-- the first wrong line: with it, but not without it, the lines begin no trace
pub record IsFirstWrong (cars : ℕ) (lines : List (List ℕ)) (number : ℕ) : Type 0 where
  pub within : number ≤ length lines
  pub before : Begin cars (take (number - 1) lines)
  pub wrong : ¬ Begin cars (take number lines)

-- a complete line is wrong, or a piece follows a whole trace
pub record IsWrongAt (cars : ℕ) (text : List ℕ) (number : ℕ) : Type 0 where
  pub lines : List (List ℕ)
  pub piece : List ℕ
  pub splits : Splits text lines piece
  pub wrong : IsFirstWrong cars lines number ⊎ (AreTrace cars lines × (piece ≢ []) × (number ≡ length lines + 1))

-- the complete lines begin a trace and are no whole one; the text ends in the line after them
pub record EndsAt (cars : ℕ) (text : List ℕ) (number : ℕ) : Type 0 where
  pub lines : List (List ℕ)
  pub piece : List ℕ
  pub splits : Splits text lines piece
  pub begin : Begin cars lines
  pub no_end : ¬ AreTrace cars lines
  pub place : number ≡ length lines + 1

-- What reading a text gives. A failed sink is nothing of it; out of memory says nothing of the text.
abbrev pub Reads : ℕ → List ℕ → Result (List TraceEvent) TraceFault → Type 0
Reads cars text (Ok events) = (length text ≤ greatest_trace) × (Format1 cars text events ⊎ Format2 cars text events)
Reads cars text (Err (BadLine line)) = ((greatest_trace < length text) × (line ≡ 1)) ⊎ ((length text ≤ greatest_trace) × IsWrongAt cars text line)
Reads cars text (Err (Truncated line)) = (length text ≤ greatest_trace) × EndsAt cars text line
Reads cars text (Err Write) = ⊥
Reads cars text (Err Memory) = Unit {0}

-- What reading a text gives that may be cut off after its first line: the events of its complete lines, and the line in which it is cut off, if it isn't whole.
abbrev pub ReadsFront : ℕ → List ℕ → List TraceEvent → Option ℕ → Type 0
ReadsFront cars text events None = Reads cars text (Ok events)
ReadsFront cars text events (Some line) =
    (length text ≤ greatest_trace) × (line ≡ length events + 2) × ((format : Format) × (piece : List ℕ) × AreTraced format cars events × IsOneLine piece × (text ≡ text_of_lines (first_line format ∷ map (line_of format) events) ++ piece))

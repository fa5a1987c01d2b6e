-- The bytes of what a program prints (own rules).
use Rattle.std.specs.Prelude.{ℕ, List, Bool, Result, Option, Some, None, string_bytes}
use Rattle.std.specs.Io.KnownBytes.{Keeps}
use Rattle.cli_host.specs.declared.status.Fault.{Fault}
use Rattle.cli_messages.specs.declared.output.Output.{Output}
use Rattle.cli_messages.specs.declared.output.Output.TheVariants.{Text, Warned, Trace, Ran}
use Rattle.cli_host.specs.Writes.{Writes}
use Rattle.trace_text.specs.Written.{text_of_entries}

-- a text, or the trace of a journal's entries
abbrev pub bytes_of : Output → List ℕ
bytes_of (Text text) = string_bytes text
bytes_of (Warned warned) = string_bytes warned.text
bytes_of (Trace entries) = text_of_entries entries.items
bytes_of (Ran ran) = text_of_entries ran.entries.items

-- what an output has for the standard error, if it may have something: warnings, or what is left of a run
abbrev pub warnings_of : Output → Option (List ℕ)
warnings_of (Warned warned) = Some (string_bytes warned.warnings)
warnings_of (Text text) = None
warnings_of (Trace entries) = None
warnings_of (Ran ran) = Some (string_bytes ran.left)

-- the standard error has the warnings, or nothing
abbrev pub WarnsOf : Option (List ℕ) → Option (List ℕ) → Option (List ℕ) → Bool → Type 0
WarnsOf None old new has_failed = Keeps old new
WarnsOf (Some warnings) old new has_failed = Writes old new has_failed warnings

abbrev pub Warns : Output → Option (List ℕ) → Option (List ℕ) → Bool → Type 0
Warns output = WarnsOf (warnings_of output)

-- what the program prints on the standard output, or why it prints nothing there
abbrev pub Outcome : Type 0
Outcome = Result Output Fault

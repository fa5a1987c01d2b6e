-- Laws of reading and writing traces.
use Rattle.std.specs.Prelude.{◌≡◌, ◌≢◌, ℕ, ◌≤◌, List, length, Result, Ok, Err}
use Rattle.group_spec.specs.declared.journal.Entry.{Entry}
use Rattle.group_spec.specs.declared.trace.TraceEvent.{TraceEvent}
use Rattle.trace_text.specs.declared.fault.TraceFault.{TraceFault}
use Rattle.trace_text.specs.declared.fault.TraceFault.TheVariants.{Memory}
use Rattle.trace_text.specs.declared.format.Format.TheVariants.{Two}
use Rattle.trace_text.specs.Text.{AreTraced}
use Rattle.trace_text.specs.Written.{traced, text_of_entries}
use Rattle.trace_text.specs.Reading.{Reads, greatest_trace}

abbrev pub Answer : Type 0
Answer = Result (List TraceEvent) TraceFault

-- reading a text gives one thing: its events, or one fault at one line
abbrev pub ReadsOnce : Type 0
ReadsOnce = (cars : ℕ) (text : List ℕ) (a b : Answer) → a ≢ Err Memory → b ≢ Err Memory → Reads cars text a → Reads cars text b → a ≡ b

-- reading what was written gives the events of the entries
abbrev pub ReadsWritten : Type 0
ReadsWritten =
    (cars : ℕ) (entries : List Entry) (answer : Answer) → AreTraced Two cars (traced entries) → length (text_of_entries entries) ≤ greatest_trace → answer ≢ Err Memory
    → Reads cars (text_of_entries entries) answer → answer ≡ Ok (traced entries)

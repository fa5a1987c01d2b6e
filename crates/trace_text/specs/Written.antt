-- What the trace of a journal tells (own rules).
use Rattle.std.specs.Prelude.{ℕ, List, [], ◌∷◌, ◌++◌, map, flat_map}
use Rattle.group_spec.specs.declared.journal.Entry.{Entry}
use Rattle.group_spec.specs.declared.journal.Entry.TheVariants as entry
use Rattle.group_spec.specs.declared.trace.TraceEvent.{TraceEvent}
use Rattle.group_spec.specs.declared.trace.TraceEvent.TheVariants.{Start, Commit, Press, Gather, Refresh}
use Rattle.group_spec.specs.Hands.{floors_of}
use Rattle.trace_text.specs.declared.format.Format.TheVariants.{Two}
use Rattle.trace_text.specs.Text.{text_of}

-- A refresh's calls are pressed in the order of (from, to), and then each of their floors is gathered, rising, before it.
unfoldable pub traced_entry : Entry → List TraceEvent
traced_entry (entry.Start t) = Start t ∷ []
traced_entry (entry.Commit t) = Commit t ∷ []
traced_entry (entry.Refresh fields calls) = map Press calls ++ (map Gather (floors_of calls) ++ Refresh fields ∷ [])

abbrev pub traced : List Entry → List TraceEvent
traced entries = flat_map traced_entry entries

-- the text that is written of entries
abbrev pub text_of_entries : List Entry → List ℕ
text_of_entries entries = text_of Two (traced entries)

-- Events that stay in their text (own rules).
use Rattle.std.specs.Prelude.{◌≡◌, ℕ, ◌≤◌, List, ◌++◌, length, map, drop}
use Rattle.std.specs.Coded.{Coded, coded_list}
use Rattle.group_spec.specs.declared.trace.TraceEvent.{TraceEvent}
use Rattle.group_spec.specs.contracts.trace.TraceEvent as event
use Rattle.trace_text.specs.declared.format.Format.{Format}
use Rattle.trace_text.specs.Text.{line_of, text_of_lines, AreTraced}
use Rattle.trace_text.specs.Reading.{greatest_trace}

-- the code of events
abbrev pub events_code : Coded (List TraceEvent)
events_code = coded_list event.the_row.coded

-- the lines of events
abbrev pub event_lines : Format → List TraceEvent → List ℕ
event_lines format events = text_of_lines (map (line_of format) events)

-- a text is the lines of events that a trace of so many cars may have, and what follows them
pub record BeginsWith (format : Format) (cars : ℕ) (text : List ℕ) (events : List TraceEvent) : Type 0 where
  pub traced : AreTraced format cars events
  pub behind : List ℕ
  pub whole : text ≡ event_lines format events ++ behind

-- the text of so many events
pub record IsTextOf (format : Format) (cars : ℕ) (text : List ℕ) (count : ℕ) (events : List TraceEvent) : Type 0 where
  pub begins : BeginsWith format cars text events
  pub counted : length events ≡ count
  pub few : count ≤ greatest_trace

-- the text of those events that are left after so many
pub record IsLeftOf (format : Format) (cars : ℕ) (text : List ℕ) (count index : ℕ) (events : List TraceEvent) : Type 0 where
  pub begins : BeginsWith format cars text (drop index events)
  pub counted : length events ≡ count
  pub within : index ≤ count
  pub few : count ≤ greatest_trace

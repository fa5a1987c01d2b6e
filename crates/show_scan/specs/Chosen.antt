-- Which scan of a trace is shown (own rules).
use Rattle.std.specs.Prelude.{ℕ, ◌+◌, Bool, true, ◌==◌, List, [], ◌∷◌, Option, Some, None, if◌then◌else◌, min}
use Rattle.group_spec.specs.declared.trace.TraceEvent.{TraceEvent}
use Rattle.group_spec.specs.declared.trace.TraceEvent.TheVariants.{Start, Commit, Refresh}
use Rattle.show_scan.specs.declared.chosen.Asked.{Asked}
use Rattle.show_scan.specs.declared.chosen.Chosen.{Chosen}
use Rattle.show_scan.specs.declared.chosen.Search.{Search}

-- the next round; they count from 1, and each refresh begins one
abbrev pub next_round : ℕ → ℕ
next_round round = min (round + 1) 4294967295

-- whether a round is the one that is asked for; where none is, each
abbrev pub is_asked : Option ℕ → ℕ → Bool
is_asked None round = true
is_asked (Some wanted) round = wanted == round

-- the scan that a commit ends, by how many events are up to its start; without one that has started since the last commit it ends none
abbrev pub committed : Option ℕ → ℕ → Option Chosen → Option Chosen
committed None round found = found
committed (Some front) round found = Some (record { front = front; round = round })

-- the last scan that is asked for, after a commit of its task
abbrev pub found_behind : Option ℕ → Search → Option Chosen
found_behind wanted s = if is_asked wanted s.round then committed s.started s.round s.found else s.found

-- what is known of the scans of the task after an event, with which there are so many; each commit of the task ends the scan that has started
abbrev pub noted : Asked → ℕ → TraceEvent → Search → Search
noted asked count (Start task) s = if task == asked.task then record s { started = Some count } else s
noted asked count (Commit task) s = if task == asked.task then record s { started = None; found = found_behind asked.round s } else s
noted asked count (Refresh fields) s = record s { round = next_round s.round }
noted asked count _ s = s

-- the same after all events, with so many before them
abbrev pub noted_all : Asked → ℕ → List TraceEvent → Search → Search
noted_all asked count [] s = s
noted_all asked count (e ∷ events) s = noted_all asked (count + 1) events (noted asked (count + 1) e s)

-- no scan has started yet
abbrev pub nothing_noted : Search
nothing_noted = record { round = 0; started = None; found = None }

-- the last scan of the task that the trace commits, in the round that is asked for: that of the last Start after which a Commit comes, in that round
abbrev pub chosen : Asked → List TraceEvent → Option Chosen
chosen asked events = (noted_all asked 0 events nothing_noted).found

-- Worked examples of traces.
use Rattle.std.proofs.Common.{◌≡◌, ℕ, true, false, List, [], ◌∷◌, refl, length}
use Rattle.std.specs.Prelude.{codes, Bool}
use Rattle.std.specs.Fmt.{digits}
use Rattle.group_spec.specs.declared.image.Fields.{Fields}
use Rattle.group_spec.specs.declared.journal.Entry.TheVariants as entry
use Rattle.group_spec.specs.declared.trace.TraceEvent.{TraceEvent}
use Rattle.group_spec.specs.declared.trace.TraceEvent.TheVariants.{Start, Commit, Refresh}
use Rattle.trace_text.specs.declared.format.Format.TheVariants.{One}
use Rattle.trace_text.specs.Text.{text_of, line_of, last_line, car_part}
use Rattle.trace_text.specs.Written.{text_of_entries, traced_entry}

-- one car at floor 1, level and locked
abbrev at : ℕ → Bool → Fields
at time fire = record { time = time; run_limit = 1; fire = fire; cars = record { pos = 1; level = true; top = false; bottom = true; locked = true; opened = false } ∷ [] }

abbrev one_round : List TraceEvent
one_round = Refresh (at 100 false) ∷ Start 1 ∷ Commit 1 ∷ []

-- the 40 bytes of the first format
first_format : text_of One one_round ≡ codes "LIFTTRACE 1\nR 100 1 1 10110\nS 1\nC 1\nE 3\n"
unfolding digits line_of last_line car_part
first_format = refl

forty : length (text_of One one_round) ≡ 40
unfolding digits line_of last_line car_part
forty = refl

-- what is written: a call is pressed and its floor gathered before the refresh
pressed : text_of_entries (entry.Refresh (at 100 false) (record { from = 1; to = 2 } ∷ []) ∷ entry.Start 1 ∷ entry.Commit 1 ∷ []) ≡ codes "LIFTTRACE 2\nP 1 2\nG 1\nR 100 1 0 1 10110\nS 1\nC 1\nE 5\n"
unfolding digits line_of last_line car_part traced_entry
pressed = refl

-- a floor with two calls is gathered once; FIRE is in the refresh
two_calls : text_of_entries (entry.Refresh (at 300 true) (record { from = 1; to = 2 } ∷ record { from = 1; to = 3 } ∷ record { from = 3; to = 1 } ∷ []) ∷ []) ≡ codes "LIFTTRACE 2\nP 1 2\nP 1 3\nP 3 1\nG 1\nG 3\nR 300 1 1 1 10110\nE 6\n"
unfolding digits line_of last_line car_part traced_entry
two_calls = refl

-- an empty journal
nothing : text_of_entries [] ≡ codes "LIFTTRACE 2\nE 0\n"
unfolding digits last_line
nothing = refl

-- What the tasks ask for at their commits (own rules).
use Rattle.std.specs.Prelude.{ℕ, zero, suc, List, [], ◌∷◌, replicate, slice_get, slice_set, option_map, unwrap_or, ◌==◌}
use Rattle.std.specs.List.{find}
use Rattle.group_rounds.specs.Shown.{Commit}
use Rattle.group_spec.specs.declared.report.Answered.{Answered}
use Rattle.group_spec.specs.declared.trace.TraceEvent.{TraceEvent}
use Rattle.group_spec.specs.declared.trace.TraceEvent.TheVariants as traced
use Rattle.group_spec.specs.Limits.{most_cars}
use Rattle.group_spec.specs.Replies.{Reply, Committed}
use Rattle.show_values.specs.declared.asked.Asked.{Asked}

-- nothing was asked for yet
abbrev pub nothing_asked : Asked
nothing_asked = record { serves = replicate most_cars 0; tells = [] }

-- the slot that a car's commit asks to serve: it is answered alone, and a SERVE of 0 not at all
abbrev pub serve_in : List Answered → ℕ
serve_in [] = 0
serve_in (a ∷ answers) = a.slot

-- What is asked for after a task's commit, by what it was answered: of a car its serve, of GROUP its tells, in place of those of its commit before.
abbrev pub asked_after : ℕ → List Answered → Asked → Asked
asked_after zero answers asked = record { serves = asked.serves; tells = answers }
asked_after (suc k) answers asked = record { serves = slice_set asked.serves k (serve_in answers); tells = asked.tells }

-- and after commits, in their order
abbrev pub asked_behind : List Commit → Asked → Asked
asked_behind [] asked = asked
asked_behind (c ∷ commits) asked = asked_behind commits (asked_after c.task c.report.answers asked)

-- what is asked for after a commit that has reported
abbrev pub asked_by : ℕ → Reply → Asked → Asked
asked_by t (Committed report) asked = asked_after t report.answers asked
asked_by t _ asked = asked

-- and after an event of a trace, by what the world replied to it
abbrev pub asked_at : TraceEvent → Reply → Asked → Asked
asked_at (traced.Start t) reply asked = asked
asked_at (traced.Commit t) reply asked = asked_by t reply asked
asked_at (traced.Press call) reply asked = asked
asked_at (traced.Gather floor) reply asked = asked
asked_at (traced.Refresh fields) reply asked = asked

-- SERVE of a car's last commit, or 0; the first car is at place 0
abbrev pub serve_at : ℕ → Asked → ℕ
serve_at place asked = unwrap_or (slice_get asked.serves place) 0

-- ASSIGN of a slot in GROUP's last commit, or 0: the car of the tell of the slot
abbrev pub assign_of : ℕ → Asked → ℕ
assign_of slot asked = unwrap_or (option_map (λ (a : Answered). a.car) (find (λ (a : Answered). a.slot == slot) asked.tells)) 0

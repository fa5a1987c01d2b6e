-- What `denials` and `watch` print along a trace (own rules).
use Rattle.std.specs.Prelude.{◌≡◌, ℕ, zero, suc, ◌+◌, Bool, List, [], ◌∷◌, ◌++◌}
use Rattle.base_json.specs.declared.form.Form.{Form}
use Rattle.il_syntax.specs.declared.tree.Config.{Config}
use Rattle.show_calls.specs.Logs.{answers_of}
use Rattle.group_rounds.specs.Along.{Step, AreStepsOf}
use Rattle.group_spec.specs.declared.report.Denial.{Denial}
use Rattle.group_spec.specs.declared.trace.TraceEvent.{TraceEvent}
use Rattle.group_spec.specs.declared.trace.TraceEvent.TheVariants as traced
use Rattle.group_spec.specs.Replies.{Reply, Committed, Refreshed}
use Rattle.group_spec.specs.World.{World}
use Rattle.show_values.specs.declared.asked.Asked.{Asked}
use Rattle.show_values.specs.declared.names.Watched.{Watched}
use Rattle.show_values.specs.Asked.{nothing_asked, asked_at}
use Rattle.show_values.specs.Denials.{refresh_rows, denials_rows, answers_rows}
use Rattle.show_values.specs.Values.{row_text}

-- the round after an event: a refresh begins one
abbrev pub round_behind : TraceEvent → ℕ → ℕ
round_behind (traced.Start t) round = round
round_behind (traced.Commit t) round = round
round_behind (traced.Press call) round = round
round_behind (traced.Gather floor) round = round
round_behind (traced.Refresh fields) round = round + 1

-- the denials of a refresh or a commit
abbrev pub denials_in : Reply → List Denial
denials_in (Refreshed report) = report.denials
denials_in (Committed report) = report.denials
denials_in _ = []

-- DENIALS

-- what is printed of an event, in its round
abbrev pub denied_at : Form → Bool → TraceEvent → Reply → ℕ → List ℕ
denied_at form all (traced.Start t) reply round = []
denied_at form all (traced.Commit t) reply round = denials_rows form round (denials_in reply) ++ answers_rows form round t (answers_of reply)
denied_at form all (traced.Press call) reply round = []
denied_at form all (traced.Gather floor) reply round = []
denied_at form all (traced.Refresh fields) reply round = refresh_rows form all round (denials_in reply)

-- what is printed of steps, after so many rounds
abbrev pub denied_along : Form → Bool → List Step → ℕ → List ℕ
denied_along form all [] round = []
denied_along form all (s ∷ steps) round = denied_at form all s.event s.reply (round_behind s.event round) ++ denied_along form all steps (round_behind s.event round)

-- The text is what is printed of a trace's events in a form, which the world takes one after the other.
pub record IsDeniedIn (form : Form) (all : Bool) (c : Config) (w : World) (events : List TraceEvent) (v : World) (text : List ℕ) : Type 0 where
  pub steps : List Step
  pub are : AreStepsOf c w events v steps
  pub is : text ≡ denied_along form all steps 0

-- VALUES

-- the row of a round that is over; before the first refresh there is none
abbrev pub row_of : List Watched → ℕ → Asked → World → List ℕ
row_of watched zero asked w = []
row_of watched (suc n) asked w = row_text watched (suc n) asked w

-- the row of the round that an event ends: a refresh ends the round before it
abbrev pub row_before : List Watched → TraceEvent → ℕ → Asked → World → List ℕ
row_before watched (traced.Start t) round asked w = []
row_before watched (traced.Commit t) round asked w = []
row_before watched (traced.Press call) round asked w = []
row_before watched (traced.Gather floor) round asked w = []
row_before watched (traced.Refresh fields) round asked w = row_of watched round asked w

-- a row of each round, with the values after its last event
abbrev pub rows_along : List Watched → List Step → ℕ → Asked → World → List ℕ
rows_along watched [] round asked w = row_of watched round asked w
rows_along watched (s ∷ steps) round asked w = row_before watched s.event round asked w ++ rows_along watched steps (round_behind s.event round) (asked_at s.event s.reply asked) s.after

-- The rows are those of a trace's events, which the world takes one after the other. Nothing was asked for before.
pub record AreRowsAlong (watched : List Watched) (c : Config) (w : World) (events : List TraceEvent) (v : World) (rows : List ℕ) : Type 0 where
  pub steps : List Step
  pub are : AreStepsOf c w events v steps
  pub is : rows ≡ rows_along watched steps 0 nothing_asked w

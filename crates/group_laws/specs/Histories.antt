-- What calls promise that hand in events one after another, whatever was handed in before (own rules).
use Rattle.std.specs.Prelude.{◌≡◌, List, [], ◌∷◌, ◌++◌, flat_map, Result, Ok}
use Rattle.il_syntax.specs.declared.tree.Config.{Config}
use Rattle.group_spec.specs.declared.event.Event.{Event}
use Rattle.group_spec.specs.Replies.{Reply}
use Rattle.group_spec.specs.World.{World, Halt, happens, run, and_then}
use Rattle.group_laws.specs.Runs.{RunsWell, WorldWellFrom, Begins}

-- these events led from one world to another, and were answered so (own rule)
abbrev pub IsHistoryFrom : Config → World → List Event → List Reply → World → Type 0
IsHistoryFrom c base past answers w = run c base [] past ≡ Ok (w, answers)

-- Events that follow a history run to their end, in a world to which the history and they lead, and which is well (own rule).
pub record RunsOnWell (c : Config) (base : World) (past : List Event) (answers : List Reply) (w : World) (events : List Event) : Type 0 where
  pub after : World
  pub replies : List Reply
  pub is : run c w [] events ≡ Ok (after, replies)
  pub history : IsHistoryFrom c base (past ++ events) (answers ++ replies) after
  pub well : WorldWellFrom c base (past ++ events) (answers ++ replies) after

-- of a program that runs well each run goes on well, whatever has led to the world (own rule)
abbrev pub RunsGoOn : Type 0
RunsGoOn =
    (c : Config) → RunsWell c → (base : World) → Begins c base → (past events : List Event) (answers : List Reply) (w : World) → IsHistoryFrom c base past answers w → RunsOnWell c base past answers w events

-- What a call promises that hands in these events in this world: after every history that leads there, from the opening or from another world that rests, each prefix of
-- them runs on well (own rule).
abbrev pub CallGoesWell : Config → World → List Event → Type 0
CallGoesWell c w events =
    (base : World) → Begins c base → (past first rest : List Event) (answers : List Reply) → IsHistoryFrom c base past answers w → events ≡ first ++ rest → RunsOnWell c base past answers w first

-- each call of a program that runs well promises it (own rule)
abbrev pub CallsGoWell : Type 0
CallsGoWell = (c : Config) → RunsWell c → (w : World) (events : List Event) → CallGoesWell c w events

-- one event alone is a run of one event (own rule)
abbrev pub EventIsRun : Type 0
EventIsRun = (c : Config) (w v : World) (e : Event) (reply : Reply) (earlier : List Reply) → happens c w e ≡ Ok (v, reply) → run c w earlier (e ∷ []) ≡ Ok (v, earlier ++ reply ∷ [])

-- calls one after another, each with the events that it hands in (own rule)
abbrev pub run_calls : Config → World → List Reply → List (List Event) → Result (World × List Reply) Halt
run_calls c w replies [] = Ok (w, replies)
run_calls c w replies (events ∷ calls) = and_then (run c w replies events) (λ n. run_calls c n.0 n.1 calls)

-- they are one run over all of their events (own rule)
abbrev pub CallsAreOneRun : Type 0
CallsAreOneRun = (c : Config) (w : World) (replies : List Reply) (calls : List (List Event)) → run_calls c w replies calls ≡ run c w replies (flat_map (λ events. events) calls)

-- A run's prefix leads to a world from which the rest goes on, with the replies of both one after the other (own rule).
pub record IsCut (c : Config) (w v : World) (replies : List Reply) (first rest : List Event) : Type 0 where
  pub between : World
  pub sooner : List Reply
  pub later : List Reply
  pub begun : run c w [] first ≡ Ok (between, sooner)
  pub ended : run c between [] rest ≡ Ok (v, later)
  pub both : replies ≡ sooner ++ later

-- each run can be cut at each place (own rule)
abbrev pub RunsAreCut : Type 0
RunsAreCut = (c : Config) (w v : World) (replies : List Reply) (first rest : List Event) → run c w [] (first ++ rest) ≡ Ok (v, replies) → IsCut c w v replies first rest

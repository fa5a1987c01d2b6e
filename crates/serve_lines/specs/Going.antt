-- Where a group goes on that a trace tells of (own rules).
use Rattle.std.specs.Prelude.{◌≡◌, ◌==◌, ◌+◌, ◌&&◌, not, ℕ, Bool, true, false, List, [], ◌∷◌, if◌then◌else◌, length, take, replicate, slice_set}
use Rattle.il_syntax.specs.declared.tree.Config.{Config}
use Rattle.group_spec.specs.declared.event.EventFault.{EventFault}
use Rattle.group_spec.specs.declared.trace.TraceEvent.{TraceEvent}
use Rattle.group_spec.specs.declared.trace.TraceEvent.TheVariants as traced
use Rattle.group_spec.specs.Image.{sizes_of}
use Rattle.group_spec.specs.Snapshot.{has_task}
use Rattle.group_spec.specs.World.{World}
use Rattle.group_laws.specs.Holding.{at_rest}
use Rattle.group_journal.specs.Rounds.{TakesAll, IsRefusedAt}

-- WHOLE LINES

-- whose scans are open after an event, each task at the place of its number
abbrev pub opened : List Bool → TraceEvent → List Bool
opened marks (traced.Start t) = slice_set marks t true
opened marks (traced.Commit t) = slice_set marks t false
opened marks (traced.Press call) = marks
opened marks (traced.Gather floor) = marks
opened marks (traced.Refresh fields) = marks

-- no scan is open
abbrev pub are_shut : List Bool → Bool
are_shut [] = true
are_shut (mark ∷ marks) = not mark && are_shut marks

-- whether a line may end with an event, where this is the last task of a round: a press, or that task's commit
abbrev pub ends_line : ℕ → TraceEvent → Bool
ends_line last (traced.Start t) = false
ends_line last (traced.Commit t) = t == last
ends_line last (traced.Press call) = true
ends_line last (traced.Gather floor) = false
ends_line last (traced.Refresh fields) = false

-- how many events are in whole lines, where so many of those before do, and so many there are
abbrev pub whole_from : ℕ → List Bool → ℕ → ℕ → List TraceEvent → ℕ
whole_from last marks whole count [] = whole
whole_from last marks whole count (e ∷ events) =
    whole_from last (opened marks e) (if ends_line last e && are_shut (opened marks e) then count + 1 else whole) (count + 1) events

-- no task has an open scan
abbrev pub all_shut : List Bool
all_shut = replicate 9 false

-- How many of the events of a trace are in whole lines: those up to the last press, or commit of the last task, after which no scan is open.
unfoldable pub whole_events : ℕ → List TraceEvent → ℕ
whole_events last events = whole_from last all_shut 0 0 events

-- the last task of a round: GROUP, or else the last car
abbrev pub last_task : Config → ℕ
last_task c = if has_task c 0 then 0 else (sizes_of c).cars

-- GOING ON

-- the events of a trace that are in whole lines
abbrev pub whole_front : Config → List TraceEvent → List TraceEvent
whole_front c events = take (whole_events (last_task c) events) events

-- From a world lead the events of a trace that are in whole lines to one which, with every output still, is this; after them come so many.
pub record GoesOn (c : Config) (w : World) (events : List TraceEvent) (v : World) (dropped : ℕ) : Type 0 where
  pub behind : World
  pub taken : TakesAll c w (whole_front c events) behind
  pub rests : v ≡ at_rest behind
  pub others : length events ≡ whole_events (last_task c) events + dropped

-- one of them is refused
abbrev pub IsBroken : Config → World → List TraceEvent → ℕ → EventFault → Type 0
IsBroken c w events index why = IsRefusedAt c w (whole_front c events) index why

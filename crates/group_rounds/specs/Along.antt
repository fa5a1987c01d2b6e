-- What a world replies along a trace (own rules).
use Rattle.std.specs.Prelude.{◌≡◌, List, [], ◌∷◌, map, Ok}
use Rattle.il_syntax.specs.declared.tree.Config.{Config}
use Rattle.group_spec.specs.declared.event.Event.{Event}
use Rattle.group_spec.specs.declared.event.Event.TheVariants.{Start, Refresh, Press, Gather}
use Rattle.group_spec.specs.declared.trace.TraceEvent.{TraceEvent}
use Rattle.group_spec.specs.declared.trace.TraceEvent.TheVariants as traced
use Rattle.group_spec.specs.Replies.{Reply, Committed}
use Rattle.group_spec.specs.World.{World, happens}
use Rattle.group_journal.specs.Journal.{IsAccepted}
use Rattle.group_journal.specs.Rounds.{FinishesAndCommits, IsRefusedAt}
use Rattle.group_rounds.specs.declared.along.Stop.{Stop}
use Rattle.group_rounds.specs.declared.along.Stop.TheVariants.{Refused, Memory}

-- an event happens with this reply, which is no refusal
abbrev pub RepliesTo : Config → World → Event → Reply → World → Type 0
RepliesTo c w event reply v = (happens c w event ≡ Ok (v, reply)) × IsAccepted reply

-- an event of a trace is taken with this reply; a commit comes after the rest of its scan, and the reply is that to the commit
abbrev pub TakesWith : Config → World → TraceEvent → Reply → World → Type 0
TakesWith c w (traced.Start t) reply v = RepliesTo c w (Start t) reply v
TakesWith c w (traced.Commit t) reply v = (rest : FinishesAndCommits c t w v) × (reply ≡ Committed rest.report)
TakesWith c w (traced.Press call) reply v = RepliesTo c w (Press call) reply v
TakesWith c w (traced.Gather floor) reply v = RepliesTo c w (Gather floor) reply v
TakesWith c w (traced.Refresh fields) reply v = RepliesTo c w (Refresh fields) reply v

-- an event of a trace, what the world replied to it, and the world after it
pub record Step : Type 0 where
  pub event : TraceEvent
  pub reply : Reply
  pub after : World

-- steps lead from a world to another
abbrev pub Lead : Config → World → List Step → World → Type 0
Lead c w [] v = w ≡ v
Lead c w (s ∷ steps) v = TakesWith c w s.event s.reply s.after × Lead c s.after steps v

abbrev pub event_of : Step → TraceEvent
event_of s = s.event

-- a trace's events are taken, one after the other, in these steps
pub record AreStepsOf (c : Config) (w : World) (events : List TraceEvent) (v : World) (steps : List Step) : Type 0 where
  pub of : map event_of steps ≡ events
  pub lead : Lead c w steps v

-- the events are taken up to the first that is refused, which is named with its fault; or memory is missing
abbrev pub IsStopped : Config → World → List TraceEvent → Stop → Type 0
IsStopped c w events (Refused r) = IsRefusedAt c w events r.index r.fault
IsStopped c w events Memory = Unit {0}

-- The calls that wait in the hand and on the desk, as events of a trace (own rules).
use Rattle.std.specs.Prelude.{List, ◌++◌, map}
use Rattle.group_spec.specs.declared.trace.TraceEvent.{TraceEvent}
use Rattle.group_spec.specs.declared.trace.TraceEvent.TheVariants.{Press, Gather}
use Rattle.group_spec.specs.Hands.{floors_of}
use Rattle.group_spec.specs.World.{World}

-- what puts the calls of a world's hand and desk there, where neither has any: those of the hand are pressed and gathered, and then those of the desk are pressed
abbrev pub waiting_events : World → List TraceEvent
waiting_events w = (map Press w.hand ++ map Gather (floors_of w.hand)) ++ map Press w.desk

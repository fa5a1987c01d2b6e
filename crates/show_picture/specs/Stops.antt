-- Why a trace has no picture.
use Rattle.std.specs.Prelude.{List}
use Rattle.il_syntax.specs.declared.tree.Config.{Config}
use Rattle.group_journal.specs.Rounds.{IsRefusedAt}
use Rattle.group_spec.specs.declared.trace.TraceEvent.{TraceEvent}
use Rattle.group_spec.specs.World.{World}
use Rattle.show_picture.specs.declared.stop.Stop.{Stop}
use Rattle.show_picture.specs.declared.stop.Stop.TheVariants.{Refused, Memory}

-- the events are taken up to the first that is refused, which is named with its fault; or memory is missing
abbrev pub IsStopped : Config → World → List TraceEvent → Stop → Type 0
IsStopped c w events (Refused r) = IsRefusedAt c w events r.index r.fault
IsStopped c w events Memory = Unit {0}

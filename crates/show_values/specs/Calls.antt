-- The calls of a trace (own rules).
use Rattle.std.specs.Prelude.{◌≡◌, List, [], ◌∷◌}
use Rattle.il_syntax.specs.declared.tree.Config.{Config}
use Rattle.show_calls.specs.declared.log.Log.{Log}
use Rattle.show_calls.specs.Logs.{empty_log, log_after}
use Rattle.group_rounds.specs.Along.{Step, AreStepsOf}
use Rattle.group_spec.specs.declared.trace.TraceEvent.{TraceEvent}
use Rattle.group_spec.specs.World.{World}

-- what is known of the calls after steps
abbrev pub log_along : List Step → Log → Log
log_along [] log = log
log_along (s ∷ steps) log = log_along steps (log_after s.event s.reply s.after log)

-- The log is what is known after a trace's events, which the world takes one after the other.
pub record IsLogOf (c : Config) (w : World) (events : List TraceEvent) (v : World) (log : Log) : Type 0 where
  pub steps : List Step
  pub are : AreStepsOf c w events v steps
  pub is : log ≡ log_along steps empty_log

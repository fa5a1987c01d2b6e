use Rattle.std.proofs.Common.{◌≡◌, map}
use Rattle.group_spec.specs.declared.event.Event.TheVariants.{Gather}
use Rattle.group_journal.specs.Rounds.{Happen, counting_from}
use Rattle.group_rounds.proofs.steps.gather_all.Given as goal

-- so many floors were gathered
abbrev pub invariant-floors : goal.invariant-floors
invariant-floors l = Happen l.initial.world.program.config l.initial.world.world (map Gather (counting_from 1 l.below)) l.world.world × (l.world.program ≡ l.initial.world.program)

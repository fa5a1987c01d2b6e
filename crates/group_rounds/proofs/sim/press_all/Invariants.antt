use Rattle.std.proofs.Common.{◌≡◌, map, take}
use Rattle.group_spec.specs.declared.event.Event.TheVariants.{Press}
use Rattle.group_journal.specs.Rounds.{Happen}
use Rattle.group_rounds.specs.Driven.{call_of}
use Rattle.group_rounds.proofs.sim.press_all.Given as goal

-- the presses so far were made
abbrev pub invariant-presses : goal.invariant-presses
invariant-presses l = Happen l.initial.world.program.config l.initial.world.world (map Press (map call_of (take l.press-index l.presses))) l.world.world × (l.world.program ≡ l.initial.world.program)

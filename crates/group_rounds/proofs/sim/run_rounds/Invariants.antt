use Rattle.std.proofs.Common.{◌≡◌, ◌+◌, ◌++◌, ℕ, true, List, []}
use Rattle.group_spec.specs.Image.{sizes_of}
use Rattle.group_spec.specs.Plant.{IsPlantOf}
use Rattle.group_journal.specs.Closed.{IsClosed}
use Rattle.group_rounds.specs.Ahead.{press_round, IsAhead, IsStanding}
use Rattle.group_rounds.specs.Driven.{calls_in, switches_in}
use Rattle.group_rounds.specs.Shown.{Commit, RoundsShown, behind_all}
use Rattle.group_rounds.proofs.sim.run_rounds.Given as goal

-- so many rounds were run
abbrev pub invariant-rounds : goal.invariant-rounds
invariant-rounds g l = record {
  rounds :
      (text : List ℕ) × (g.O.Observer.text l.observer ≡ g.O.Observer.text l.initial.observer ++ text) × (commits : List Commit) × (g.O.Observer.shows l.observer ≡ behind_all commits (g.O.Observer.shows l.initial.observer))
      × RoundsShown (g.O.Observer.shows l.initial.observer) l.initial.world.program.config (calls_in l.drive.presses.now) (switches_in (sizes_of l.initial.world.program.config).cars l.drive.settings.now) l.number l.plant l.world.world l.entries.items commits
      text;
  plant : IsPlantOf (sizes_of l.initial.world.program.config) l.plant;
  closed : IsClosed l.world.world;
  ahead : IsAhead press_round (l.number + 1) l.drive.presses.now l.ahead;
  standing : IsStanding (sizes_of l.initial.world.program.config).cars l.drive.settings.now l.number l.standing.switches l.standing.later.now;
  idle : l.idle ≡ true → l.world.world.desk ≡ [];
  same : l.world.program ≡ l.initial.world.program;
}

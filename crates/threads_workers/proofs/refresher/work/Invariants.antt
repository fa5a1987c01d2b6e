use Rattle.std.proofs.Common.{◌≡◌}
use Rattle.group_spec.specs.Image.{sizes_of}
use Rattle.group_rounds.specs.Ahead.{IsStanding}
use Rattle.threads_workers.specs.Ran.{IsEntered}
use Rattle.threads_workers.proofs.refresher.work.Given as goal

abbrev pub invariant-rounds : goal.invariant-rounds
invariant-rounds g l = record {
  table : l.refresher.hand.table ≡ l.fn.refresher.hand.table;
  floors : l.refresher.hand.floors ≡ l.fn.refresher.hand.floors;
  refreshes : l.refresher.pass.refreshes ≡ l.below;
  driven : l.refresher.pass.driven ≡ l.below;
  entered : IsEntered l.refresher.pass.entered l.refresher.hand;
  standing : IsStanding (sizes_of g.G.Naming.program.config).cars l.fn.pace.settings.now l.below l.standing.switches l.standing.later.now;
}

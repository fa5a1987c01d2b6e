use Rattle.std.proofs.Common.{◌≡◌}
use Rattle.group_spec.specs.Image.{sizes_of}
use Rattle.threads_desk.specs.Passes.{AreAllPanels}
use Rattle.test_library.proofs.stations.steps.Given as goal

abbrev pub invariant-steps : goal.invariant-steps
invariant-steps g l = record {
  table : l.collector.table ≡ l.fn.desk.table;
  floors : l.collector.floors ≡ (sizes_of g.G.Naming.program.config).floors;
  panels : AreAllPanels l.fn.desk l.panels.items;
}

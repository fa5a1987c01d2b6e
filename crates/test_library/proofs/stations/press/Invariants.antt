use Rattle.threads_desk.specs.Passes.{AreAllPanels}
use Rattle.test_library.proofs.stations.press.Given as goal

abbrev pub invariant-panels : goal.invariant-panels
invariant-panels l = AreAllPanels l.fn.desk l.panels.items

use Rattle.std.proofs.Common.{arith}
use Rattle.example_library.proofs.Fitting.{few_reports}
use Rattle.example_library.proofs.memory.world.run.Goals as goal

pub run-requires-clause-report_room : goal.run-requires-clause-report_room
run-requires-clause-report_room c = let few = few_reports c.args.events.now in omega (arith, few, c.requires.reports, c.requires.none)

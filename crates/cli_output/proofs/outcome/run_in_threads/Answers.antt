use denote.Param.Send.{sendable}
use Rattle.threads_workers.proofs.gate.Open.TheSendSync as passing
use Rattle.threads_workers.proofs.gate.Together.TheSendSync as together
use Rattle.cli_output.proofs.outcome.run_in_threads.Goals as goal

pub run-requires : goal.run-requires
run-requires g c = (search (sendable, together.the_sync) depth 20, (search (sendable, c.type_bounds.sync-R) depth 20, (c.requires.presses, c.requires.settings)))

pub run-requires-else-together : goal.run-requires-else-together
run-requires-else-together g c = (search (sendable, passing.the_sync) depth 20, (search (sendable, c.type_bounds.sync-R) depth 20, (c.requires.presses, c.requires.settings)))

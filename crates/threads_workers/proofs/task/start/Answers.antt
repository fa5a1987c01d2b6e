use denote.Param.Send.{sendable}
use Rattle.threads_station.proofs.Cross.{Station-sync, TaskPass-send}
use Rattle.std.proofs.Crossing.{crosses}
use Rattle.threads_workers.proofs.task.start.Goals as goal

pub spawn_with-requires-send-F : goal.spawn_with-requires-send-F
spawn_with-requires-send-F g c κs within = search (sendable, Station-sync, TaskPass-send) depth 40

-- src/task.rt:88:8
pub spawn_with-requires-send-T : goal.spawn_with-requires-send-T
spawn_with-requires-send-T g c κs within = search (sendable, crosses, TaskPass-send) depth 40

use denote.Param.Send.{sendable}
use Rattle.std.proofs.Crossing.{crosses}
use Rattle.threads_station.proofs.Cross.{Station-sync, TaskPass-send}
use Rattle.example_library.proofs.threads.drive_both.Goals as goal

pub join-first-requires-send-F : goal.join-first-requires-send-F
join-first-requires-send-F g c κs within = search (sendable, crosses, Station-sync, TaskPass-send) depth 40

pub join-first-requires-send-A : goal.join-first-requires-send-A
join-first-requires-send-A g c κs within = search (sendable, crosses, TaskPass-send) depth 40

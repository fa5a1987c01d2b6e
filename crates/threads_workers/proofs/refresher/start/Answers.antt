use denote.Param.Send.{sendable}
use Rattle.threads_desk.proofs.desk.Desk.TheSendSync as desk
use Rattle.threads_station.proofs.Cross.{Station-sync}
use Rattle.threads_workers.proofs.refresher.Pace.TheSendSync as pace
use Rattle.threads_workers.proofs.refresher.Refresher.TheSendSync as refresher
use Rattle.threads_workers.proofs.refresher.start.Goals as goal

pub spawn_with-requires-send-F : goal.spawn_with-requires-send-F
spawn_with-requires-send-F g c κs within = search (sendable, Station-sync, desk.the_sync, refresher.the_send, pace.the_send) depth 40 fits 10000

-- A station is shared by threads.
use denote.RattleType.{RattleType}
use denote.Param.Send.{IsSend, IsSync, sendable, view_send}
use denote.Param.SendFields.{declared_send}
use Rattle.std.proofs.Crossing.{crosses}
use Rattle.std.proofs.sync.Mutex.TheSendSync as mutex
use Rattle.threads_book.proofs.Cross.{Store-send, Book-send}
use Rattle.threads_station.specs.declared.actor.Naming.{Ghosts}
use Rattle.threads_station.specs.contracts.locked.Locked as Locked
use Rattle.threads_station.specs.contracts.passes.TaskPass as TaskPass
use Rattle.threads_station.specs.contracts.passes.TaskPass.TheInside as PassInside
use Rattle.threads_station.specs.contracts.station.Station as Station
use Rattle.threads_station.proofs.actor.TaskShare.TheSendSync as share
use Rattle.threads_station.proofs.actor.Counts.TheSendSync as counts
use Rattle.threads_station.proofs.station.Mine.TheSendSync as mine
use Rattle.threads_station.proofs.tally.Tally.TheSendSync as tally

pub Locked-send : (G : RattleType) (g : Ghosts G.Denot) → IsSend (Locked.the_row G g)
Locked-send G g = search (sendable, crosses, Book-send, counts.the_send, tally.the_send) depth 40

pub Station-sync : (G : RattleType) (g : Ghosts G.Denot) → IsSync (Station.the_row G g)
Station-sync G g = search (sendable, crosses, mutex.the_sync, Locked-send, mine.the_sync) depth 40

PassInside-send : (G : RattleType) (g : Ghosts G.Denot) → IsSend (PassInside.the_row G g)
PassInside-send G g = declared_send (PassInside.the_type G g) (share.the_send G g, (search (sendable, Store-send) depth 20, tt))

pub TaskPass-send : (G : RattleType) (g : Ghosts G.Denot) → IsSend (TaskPass.the_row G g)
TaskPass-send G g = search (view_send, PassInside-send) depth 10

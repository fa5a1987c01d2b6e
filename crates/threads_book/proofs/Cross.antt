-- A book may go to another thread.
use denote.Param.Send.{IsSend, sendable, view_send}
use denote.Param.SendFields.{declared_send}
use Rattle.std.proofs.Crossing.{crosses}
use Rattle.scan_task.specs.contracts.store.Store as Store
use Rattle.scan_step.proofs.rows.Rows.TheSendSync as rows
use Rattle.scan_loop.proofs.scan_state.ScanState.TheSendSync as scan
use Rattle.group_world.specs.contracts.group.Core as Core
use Rattle.group_world.specs.contracts.group.Core.TheInside as CoreInside
use Rattle.group_world.proofs.shared.Shared.TheSendSync as shared
use Rattle.group_spec.proofs.journal.Entry.TheSendSync as entry
use Rattle.threads_book.specs.contracts.ledger.Ledger as Ledger
use Rattle.threads_book.specs.contracts.book.Book as Book
use Rattle.threads_book.specs.contracts.book.Book.TheInside as Inside

pub Store-send : IsSend Store.the_row
Store-send = search (sendable, crosses, scan.the_send, rows.the_send) depth 40 fits 10000

CoreInside-send : IsSend CoreInside.the_row
CoreInside-send = declared_send CoreInside.the_type (search (sendable, crosses) depth 20, (shared.the_send, tt))

Core-send : IsSend Core.the_row
Core-send = search (view_send, CoreInside-send) depth 10

pub Ledger-send : IsSend Ledger.the_row
Ledger-send = search (sendable, crosses, Core-send, Store-send, entry.the_send) depth 40 fits 10000

Inside-send : IsSend Inside.the_row
Inside-send = declared_send Inside.the_type (Ledger-send, tt)

pub Book-send : IsSend Book.the_row
Book-send = search (view_send, Inside-send) depth 10

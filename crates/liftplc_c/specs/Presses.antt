-- A press on a handle (own rules).
use Rattle.std.specs.Prelude.{◌≡◌, ℕ, Ok}
use Rattle.group_spec.specs.declared.calls.Call.{Call}
use Rattle.group_spec.specs.declared.event.Event.TheVariants.{Press}
use Rattle.group_spec.specs.declared.event.EventFault.{EventFault}
use Rattle.group_spec.specs.declared.event.EventFault.TheVariants.{FieldOutOfRange, NoOpenScan, AlreadyOpen, NotAtEnd, NoSuchActor, SameFloor}
use Rattle.group_spec.specs.declared.event.Reply.{Reply as Answer}
use Rattle.group_spec.specs.declared.event.Reply.TheVariants as answer
use Rattle.group_spec.specs.declared.report.Report.{Report}
use Rattle.group_spec.specs.Replies.{reply_with}
use Rattle.group_spec.specs.World.{happens}
use Rattle.group_world.specs.Worlds.{WorldOf}

-- the press leads from a world to another of the same program, and is answered so
pub record Presses (call : Call) (w v : WorldOf) (a : Answer) : Type 0 where
  pub report : Report
  pub pressed : happens w.program.config w.world (Press call) ≡ Ok (v.world, reply_with a report)
  pub same : v.program ≡ w.program

-- the status of a refusal: 8 for a call to its own floor
abbrev pub refusal_status : EventFault → ℕ
refusal_status FieldOutOfRange = 7
refusal_status NoOpenScan = 7
refusal_status AlreadyOpen = 7
refusal_status NotAtEnd = 7
refusal_status NoSuchActor = 7
refusal_status SameFloor = 8

-- the status of an answer; a press has no other than the first three of these
abbrev pub press_status : Answer → ℕ
press_status answer.New = 0
press_status answer.Already = 6
press_status (answer.Refused fault) = refusal_status fault
press_status answer.Started = 7
press_status answer.More = 7
press_status answer.End = 7
press_status answer.Committed = 7
press_status answer.Refreshed = 7
press_status (answer.Gathered mask) = 7
press_status answer.Held = 7

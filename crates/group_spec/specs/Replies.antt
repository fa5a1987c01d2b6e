-- What an event is answered (own rules).
use Rattle.std.specs.Prelude.{ℕ}
use Rattle.group_spec.specs.declared.report.Report.{Report}
use Rattle.group_spec.specs.declared.event.EventFault.{EventFault}
use Rattle.group_spec.specs.declared.event.Reply.{Reply as Answer}
use Rattle.group_spec.specs.declared.event.Reply.TheVariants as answer

-- The reply to an event. A commit and a refresh report; a gathering has the floors as bits.
pub data Reply : Type 0 where
  Started : Reply
  More : Reply
  End : Reply
  Committed : Report → Reply
  Refreshed : Report → Reply
  New : Reply
  Already : Reply
  Gathered : ℕ → Reply
  Held : Reply
  Refused : EventFault → Reply

-- the reply that an answer is, with the report of a commit or a refresh beside it
abbrev pub reply_with : Answer → Report → Reply
reply_with answer.Started report = Started
reply_with answer.More report = More
reply_with answer.End report = End
reply_with answer.Committed report = Committed report
reply_with answer.Refreshed report = Refreshed report
reply_with answer.New report = New
reply_with answer.Already report = Already
reply_with (answer.Gathered mask) report = Gathered mask
reply_with answer.Held report = Held
reply_with (answer.Refused fault) report = Refused fault

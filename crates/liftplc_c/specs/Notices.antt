-- What C is told of a notice (own rules).
use Rattle.group_spec.specs.Settle.{rule_number}
use Rattle.group_rounds.specs.declared.notice.Notice.{Notice}
use Rattle.group_rounds.specs.declared.notice.Notice.TheVariants.{Entered, Denied, Told, Served}
use Rattle.liftplc_c.specs.declared.notices.NoticeOutput.{NoticeOutput}

-- by its kind: 1 entered, 2 denied, 3 told, 4 served
abbrev pub notice_output : Notice → NoticeOutput
notice_output (Entered e) = record { ticket = e.ticket; kind = 1; car = 0; rule = 0; slot = e.slot; from = e.call.from; to = e.call.to }
notice_output (Denied d) = record { ticket = 0; kind = 2; car = d.car; rule = rule_number d.rule; slot = 0; from = 0; to = 0 }
notice_output (Told ticket car) = record { ticket = ticket; kind = 3; car = car; rule = 0; slot = 0; from = 0; to = 0 }
notice_output (Served ticket car) = record { ticket = ticket; kind = 4; car = car; rule = 0; slot = 0; from = 0; to = 0 }

use Rattle.std.proofs.Common.{◌≡◌, drop}
use Rattle.show_calls.specs.Logs.{all_boarded_from}
use Rattle.show_calls.proofs.log.board_all.Given as goal

-- those that are left lead to the same
abbrev pub invariant-slots : goal.invariant-slots
invariant-slots l = all_boarded_from l.at l.cars (drop l.slot-index l.slots) l.journeys ≡ all_boarded_from l.at l.cars l.slots l.initial.journeys

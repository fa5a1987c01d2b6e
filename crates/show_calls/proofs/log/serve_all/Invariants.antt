use Rattle.std.proofs.Common.{◌≡◌, drop}
use Rattle.show_calls.specs.Logs.{all_served_by}
use Rattle.show_calls.proofs.log.serve_all.Given as goal

-- those that are left lead to the same
abbrev pub invariant-answers : goal.invariant-answers
invariant-answers l = all_served_by l.at l.cars (drop l.answered-index l.answers) l.journeys ≡ all_served_by l.at l.cars l.answers l.initial.journeys

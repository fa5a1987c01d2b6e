use Rattle.std.proofs.Common.{◌≡◌, drop}
use Rattle.show_calls.specs.Logs.{all_told_by}
use Rattle.show_calls.proofs.log.tell_all.Given as goal

-- those that are left lead to the same
abbrev pub invariant-answers : goal.invariant-answers
invariant-answers l = all_told_by l.round (drop l.answered-index l.answers) l.journeys ≡ all_told_by l.round l.answers l.initial.journeys

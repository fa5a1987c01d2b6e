use Rattle.std.proofs.Common.{◌≡◌, drop}
use Rattle.show_calls.specs.Logs.{all_entered_in}
use Rattle.show_calls.proofs.log.Log.enter_all.Given as goal

-- those that are left lead to the same
abbrev pub invariant-calls : goal.invariant-calls
invariant-calls l = all_entered_in (drop l.entered-index l.calls) l.self ≡ all_entered_in l.calls l.initial.self

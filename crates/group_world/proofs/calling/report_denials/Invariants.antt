use Rattle.std.proofs.Common.{◌≡◌, map, take}
use Rattle.group_world.proofs.calling.report_denials.Given as goal

abbrev pub invariant-rules : goal.invariant-rules
invariant-rules l = l.denials ≡ map (λ rule. record { car = l.car; rule = rule }) (take l.rule-index l.rules)

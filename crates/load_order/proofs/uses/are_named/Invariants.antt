use Rattle.std.proofs.Common.{◌≡◌, drop}
use Rattle.load_order.specs.Used.{are_named}
use Rattle.load_order.proofs.uses.are_named.Given as goal

abbrev pub invariant-loop-unit : goal.invariant-loop-unit
invariant-loop-unit l = are_named l.units ≡ are_named (drop l.unit-index l.units)

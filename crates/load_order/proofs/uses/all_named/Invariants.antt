use Rattle.std.proofs.Common.{◌≡◌, drop}
use Rattle.load_order.specs.Used.{all_named}
use Rattle.load_order.proofs.uses.all_named.Given as goal

abbrev pub invariant-loop-declaration : goal.invariant-loop-declaration
invariant-loop-declaration l = all_named l.declarations ≡ all_named (drop l.declaration-index l.declarations)

use Rattle.std.proofs.Common.{◌≡◌, take}
use Rattle.load_scope.specs.Units.{declared_scalars}
use Rattle.load_scope.proofs.inputs.declared_scalars.Given as goal

abbrev pub invariant-loop-declaration : goal.invariant-loop-declaration
invariant-loop-declaration l = l.scalars ≡ declared_scalars (take l.declaration-index l.declarations)

use Rattle.std.proofs.Common.{take}
use Rattle.il_syntax.specs.declared.tree.Unit.{Unit as Item}
use Rattle.base_maps.specs.NameMap.{empty}
use Rattle.load_declarations.proofs.Againness.{IsSoFar}
use Rattle.load_declarations.proofs.again.second_unit.Given as goal

abbrev pub invariant-loop-unit : goal.invariant-loop-unit
invariant-loop-unit l = IsSoFar (λ (x : Item). x.name.name) (λ x. x.place) 20 empty l.found l.seen (take l.unit-index l.units)

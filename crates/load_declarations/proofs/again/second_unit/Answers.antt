use Rattle.std.proofs.Common.{arith, subst}
use Rattle.il_syntax.specs.declared.tree.Unit.{Unit as Item}
use Rattle.base_maps.specs.NameMap.{empty}
use Rattle.il_statics.specs.Least.{IsLeast}
use Rattle.load_scope.proofs.Filled.{take_all}
use Rattle.load_declarations.specs.Again.{AgainFrom}
use Rattle.load_declarations.proofs.Againness.{so_far_none, so_far_next}
use Rattle.load_declarations.proofs.again.second_unit.Goals as goal

pub loop-unit-init : goal.loop-unit-init
loop-unit-init c = so_far_none (λ (x : Item). x.name.name) (λ x. x.place) 20 c.new-seen.result empty c.args.units.now c.new-seen.ensures

pub loop-unit-preserved : goal.loop-unit-preserved
loop-unit-preserved c =
    so_far_next (λ (x : Item). x.name.name) (λ x. x.place) 20 empty c.args.units.now c.loop-unit.unit-index c.unit-item.result c.as_str.result.now c.in_ok-again.again c.loop-unit.found c.fault_if.result c.earlier-found.result c.loop-unit.seen c.see.new.seen
    (omega arith) c.unit-item.is c.as_str.ensures c.in_ok-again.ensures.again c.in_ok-again.ensures.seen c.fault_if.ensures c.earlier-found.ensures c.loop-unit.invariant

pub returns : goal.returns
returns c = subst (λ l. IsLeast c.loop-unit.found (AgainFrom (λ (x : Item). x.name.name) (λ x. x.place) 20 empty l)) (take_all c.args.units.now c.loop-unit.unit-index (omega arith)) c.loop-unit.invariant.least

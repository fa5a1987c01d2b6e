use Rattle.std.proofs.Common.{subst}
use Rattle.ranges_laws.specs.Prepared.{IsFineDenotation}
use Rattle.ranges_transfer.specs.Scopes.{denoted}
use Rattle.ranges_pass.proofs.Owned.{element_is}
use Rattle.ranges_pass.proofs.numbered_unit.NumberedUnitScope.meant.Goals as goal

pub returns-in-Element-clause-fine : goal.returns-in-Element-clause-fine
returns-in-Element-clause-fine c = subst (λ n. IsFineDenotation (denoted n c.args.reference.now)) c.self.view_is (c.self.invariant.0 c.args.reference.now)

pub returns-in-Element-clause-is : goal.returns-in-Element-clause-is
returns-in-Element-clause-is c = element_is c.args.self.now c.args.reference.now c.in-Element.name c.as_str-in-Element.result.now c.in-Element.index c.element.result c.in-Element.is c.as_str-in-Element.ensures c.element.ensures

pub returns-in-Member-clause-fine : goal.returns-in-Member-clause-fine
returns-in-Member-clause-fine c = subst (λ n. IsFineDenotation (denoted n c.args.reference.now)) c.self.view_is (c.self.invariant.0 c.args.reference.now)

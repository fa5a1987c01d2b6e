use Rattle.std.proofs.Common.{◌≡◌, true, [], List, length, arith, refl, ap, sym, subst, ◌∙◌}
use Rattle.il_statics.specs.Least.{IsLeast, When, Either, fault_of, earlier_of}
use Rattle.load_order.specs.declared.dead_ends.DeadEnd.{DeadEnd}
use Rattle.load_scope.proofs.Seen.{read_at}
use Rattle.load_order.specs.Chained.{AreDead, is_long}
use Rattle.load_order.specs.Breaks.{RecursionsBreak, ChainsBreak}
use Rattle.load_order.proofs.Tabled.{length-tabulate}
use Rattle.load_order.proofs.Dead.{none_dead, dead_as}
use Rattle.load_order.proofs.Places.{below_none, below_next, long_least}
use Rattle.load_order.proofs.answer.units_fault.Goals as goal

pub loop-at-init : goal.loop-at-init
loop-at-init c = record {
  units = ap length c.in_ok-ends.ensures ∙ length-tabulate {A = List DeadEnd} (λ _. []) (length c.as_slice-units.result.now) ∙ ap length (c.as_slice-units.ensures ∙ ap (λ k. k.units) c.config.ensures);
  dead = subst (λ x. AreDead (length c.in_ok-ends.ends.items) c.args.uses.now x) (sym c.in_ok-ends.ensures) (none_dead (length c.in_ok-ends.ends.items) (length c.as_slice-units.result.now) c.args.uses.now);
  found = below_none (RecursionsBreak c.args.names.now c.args.reached.now (length c.args.names.now.units)) (λ at unit. When (is_long (length c.args.names.now.units) c.args.uses.now at ≡ true) 46 unit.place) c.args.names.now.units c.recursive_fault-found.result c.recursive_fault-found.ensures;
}

pub loop-at-preserved : goal.loop-at-preserved
loop-at-preserved c =
    let is = c.as_slice-units.ensures ∙ ap (λ k. k.units) c.config.ensures in
    let i = c.loop-at.invariant in
    let e = c.in_ok-found.ensures in record {
      units = e.units ∙ i.units;
      dead = dead_as (length c.loop-at.ends.items) (length c.with_chain.new.ends.items) c.args.uses.now c.with_chain.new.ends.items c.with_chain.new.ends.items (sym e.units) refl e.dead;
      found = below_next (RecursionsBreak c.args.names.now c.args.reached.now (length c.args.names.now.units)) (λ at unit. When (is_long (length c.args.names.now.units) c.args.uses.now at ≡ true) 46 unit.place) c.args.names.now.units c.loop-at.at c.index-units-at.result c.loop-at.found (fault_of (is_long (length c.args.names.now.units) c.args.uses.now c.loop-at.at) 46 c.index-units-at.result.place) c.in_ok-found.found
          (read_at c.as_slice-units.result.now c.args.names.now.units c.loop-at.at c.index-units-at.result is (omega arith) c.index-units-at.is)
          (e.first ∙ ap (λ k. earlier_of c.loop-at.found (fault_of (is_long k c.args.uses.now c.loop-at.at) 46 c.index-units-at.result.place)) i.units) i.found (long_least (is_long (length c.args.names.now.units) c.args.uses.now c.loop-at.at) c.index-units-at.result.place);
    }

pub returns : goal.returns
returns c =
    let is = ap length (c.as_slice-units.ensures ∙ ap (λ k. k.units) c.config.ensures) in
    subst (λ k. IsLeast c.loop-at.found (Either (RecursionsBreak c.args.names.now c.args.reached.now (length c.args.names.now.units)) (ChainsBreak c.args.names.now c.args.uses.now k))) (let l = c.loop-at.auto.at-end in let h = c.loop-at-test.false in omega (arith, is, l, h)) c.loop-at.invariant.found

use Rattle.std.proofs.Common.{Some, arith, ◌∙◌, ap, refl, sym}
use Rattle.il_statics.proofs.Least.{least_none}
use Rattle.load_scope.proofs.Seen.{read_at}
use Rattle.load_types.proofs.Over.{unit_more, units_end}
use Rattle.load_types.proofs.answer.units_fault.Goals as goal

pub loop-at-init : goal.loop-at-init
loop-at-init c = least_none _ _ refl (λ n p h. omega (arith, h.2))

pub of-scope-requires : goal.of-scope-requires
of-scope-requires c = read_at c.as_slice-units.result.now c.args.names.now.units c.loop-at.at c.index-units-at.result (c.as_slice-units.ensures ∙ ap (λ k. k.units) c.config.ensures) (omega arith) c.index-units-at.is

pub loop-at-preserved : goal.loop-at-preserved
loop-at-preserved c =
    unit_more c.args.names.now c.args.names.now c.of-scope.result.config c.of-scope.result.unit c.loop-at.at c.loop-at.found c.in_ok-unit_fault.field-0 c.earlier-found.result
    refl c.of-scope.ensures.config (read_at c.as_slice-units.result.now c.args.names.now.units c.loop-at.at c.index-units-at.result (c.as_slice-units.ensures ∙ ap (λ k. k.units) c.config.ensures) (omega arith) c.index-units-at.is ∙ ap Some (sym c.of-scope.ensures.unit))
    c.loop-at.invariant c.in_ok-unit_fault.ensures c.earlier-found.ensures

pub returns : goal.returns
returns c = units_end c.args.names.now c.as_slice-units.result.now c.loop-at.found c.loop-at.at (c.as_slice-units.ensures ∙ ap (λ k. k.units) c.config.ensures) (let low = c.loop-at-test.false in let high = c.loop-at.auto.at-end in omega arith) c.loop-at.invariant

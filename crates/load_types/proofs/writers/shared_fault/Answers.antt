use Rattle.std.proofs.Common.{◌≡◌, arith, ap, refl, subst, length, ◌∙◌}
use Rattle.il_statics.specs.Least.{IsLeast, Below}
use Rattle.il_statics.proofs.Least.{least_none, least_next}
use Rattle.load_scope.proofs.Seen.{read_at}
use Rattle.load_types.specs.Writers.{HasSharedStore}
use Rattle.load_types.proofs.writers.shared_fault.Goals as goal

pub loop-at-init : goal.loop-at-init
loop-at-init c = least_none _ _ refl (λ n p h. omega (arith, h.2))

pub of-scope-requires : goal.of-scope-requires
of-scope-requires c = read_at c.as_slice-units.result.now c.args.names.now.units c.loop-at.at c.index-units-at.result (c.as_slice-units.ensures ∙ ap (λ k. k.units) c.config.ensures) (omega arith) c.index-units-at.is

pub loop-at-preserved : goal.loop-at-preserved
loop-at-preserved c =
    least_next (λ at. HasSharedStore c.args.writers.now) c.args.names.now.units c.loop-at.at c.index-units-at.result c.loop-at.found c.unit_shared_fault.result c.earlier-found.result
    (read_at c.as_slice-units.result.now c.args.names.now.units c.loop-at.at c.index-units-at.result (c.as_slice-units.ensures ∙ ap (λ k. k.units) c.config.ensures) (omega arith) c.index-units-at.is) c.earlier-found.ensures c.loop-at.invariant c.unit_shared_fault.ensures

pub returns : goal.returns
returns c =
    let e = ap length (c.as_slice-units.ensures ∙ ap (λ k. k.units) c.config.ensures) in
    let low = c.loop-at-test.false in
    let high = c.loop-at.auto.at-end in
    let same : c.loop-at.at ≡ length c.args.names.now.units = omega arith in
    subst (λ k. IsLeast c.loop-at.found (Below (λ at. HasSharedStore c.args.writers.now) c.args.names.now.units k)) same c.loop-at.invariant

use Rattle.std.proofs.Common.{◌≡◌, ◌∙◌, ap, subst, arith}
use Rattle.il_statics.specs.Least.{IsLeast}
use Rattle.load_scope.proofs.Seen.{read_at}
use Rattle.load_declarations.proofs.UnitFaults.{first_next, first_all}
use Rattle.load_types.specs.Faults.{UnitBreaks}
use Rattle.load_types.proofs.per_unit.faults_of.Goals as goal

pub of-scope-requires : goal.of-scope-requires
of-scope-requires c = read_at c.as_slice-units.result.now c.args.names.now.units c.loop-at.at c.index-units-at.result (c.as_slice-units.ensures ∙ ap (λ k. k.units) c.config.ensures) (omega arith) c.index-units-at.is

pub loop-at-preserved : goal.loop-at-preserved
loop-at-preserved c =
    let names = c.args.names.now in
    let unit = c.index-units-at.result in
    let least : IsLeast c.in_ok-found.found (UnitBreaks names unit) = subst (λ d. IsLeast c.in_ok-found.found (UnitBreaks d unit)) c.of-scope.ensures.config (subst (λ u. IsLeast c.in_ok-found.found (UnitBreaks c.of-scope.result.config u)) c.of-scope.ensures.unit c.in_ok-found.ensures) in
    first_next (UnitBreaks names) c.as_slice-units.result.now names.units c.loop-at.at unit c.loop-at.faults.items c.put_found.new.faults.items c.in_ok-found.found (c.as_slice-units.ensures ∙ ap (λ k. k.units) c.config.ensures) c.loop-at-test.true c.index-units-at.is least c.in_ok-put_found.ensures c.loop-at.invariant

pub returns : goal.returns
returns c = first_all (UnitBreaks c.args.names.now) c.as_slice-units.result.now c.args.names.now.units c.loop-at.at c.loop-at.faults.items (c.as_slice-units.ensures ∙ ap (λ k. k.units) c.config.ensures) c.loop-at-test.false c.loop-at.invariant

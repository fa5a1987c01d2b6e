use Rattle.std.proofs.Common.{◌∙◌, ap, subst, inl, inr}
use Rattle.il_statics.specs.Least.{IsLeast}
use Rattle.load_declarations.specs.Units.{UnitBreaks}
use Rattle.load_declarations.proofs.AllBroken.{is_broken}
use Rattle.load_declarations.proofs.UnitFaults.{first_next, first_all, first_broken}
use Rattle.load_declarations.proofs.per_unit.unit_faults.Goals as goal

pub loop-at-preserved : goal.loop-at-preserved
loop-at-preserved c =
    let names = c.args.names.now in
    let unit = c.index-units-at.result in
    let least : IsLeast c.in_ok-found.found (UnitBreaks names unit) = subst (λ d. IsLeast c.in_ok-found.found (UnitBreaks d unit)) c.of-here.ensures.config (subst (λ u. IsLeast c.in_ok-found.found (UnitBreaks c.of-here.result.config u)) c.of-here.ensures.unit c.in_ok-found.ensures) in
    first_next (UnitBreaks names) c.as_slice-units.result.now names.units c.loop-at.at unit c.loop-at.faults.items c.put_found.new.faults.items c.in_ok-found.found (c.as_slice-units.ensures ∙ ap (λ k. k.units) c.config.ensures) c.loop-at-test.true c.index-units-at.is least c.in_ok-put_found.ensures c.loop-at.invariant

pub returns-clause-all : goal.returns-clause-all
returns-clause-all c = first_all (UnitBreaks c.args.names.now) c.as_slice-units.result.now c.args.names.now.units c.loop-at.at c.loop-at.faults.items (c.as_slice-units.ensures ∙ ap (λ k. k.units) c.config.ensures) c.loop-at-test.false c.loop-at.invariant

pub returns-clause-broken : goal.returns-clause-broken
returns-clause-broken c = λ fault among.
    let names = c.args.names.now in
    let of = first_broken (UnitBreaks names) names.units c.loop-at.faults.items (first_all (UnitBreaks names) c.as_slice-units.result.now names.units c.loop-at.at c.loop-at.faults.items (c.as_slice-units.ensures ∙ ap (λ k. k.units) c.config.ensures) c.loop-at-test.false c.loop-at.invariant) fault among in
    is_broken names fault.number fault.place (inl (inr (of.0, of.1, of.2)))

use Rattle.std.proofs.Common.{refl, sym, ap, subst}
use Rattle.reasons_ranges.specs.RangeReasons.{AreUnitsTold, units}
use Rattle.reasons_ranges.proofs.ranges.fault_told.Goals as goal

pub returns-in_ok-told-in-Ok : goal.returns-in_ok-told-in-Ok
returns-in_ok-told-in-Ok c =
    let config = c.in-Ok.ordered in
    units c.args.fault config refl c.in-Ok.ensures.found.0 c.in-Ok.ensures.found.1 (subst (AreUnitsTold config c.args.fault c.args.place config.units) (sym (ap (λ v. v.items) c.into_bytes.ensures.value)) c.in_ok-told-in-Ok.ensures)

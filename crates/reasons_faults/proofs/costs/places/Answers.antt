use Rattle.std.proofs.Common.{arith, ◌+◌, ◌-◌, ◌++◌, length, ap, ◌∙◌}
use Rattle.load_budgets.specs.Rounds.{followed}
use Rattle.load_budgets.specs.declared.table.Rest.{Rest}
use Rattle.reasons_faults.specs.CostReasons.{places_by}
use Rattle.reasons_faults.proofs.PathRuns.{place_more}
use Rattle.reasons_faults.proofs.costs.places.Goals as goal

pub places-preserved : goal.places-preserved
places-preserved c =
    let left = length c.args.rests.now - (c.places._passed + 1) in
    ap (λ (r : Rest). c.push.new.self ++ followed left c.args.rests.now r.next) c.rest_up-at.ensures
    ∙ place_more c.args.rests.now left (length c.args.rests.now - c.places._passed) c.in-Some.place c.places.places c.push.new.self (places_by c.args.rests.now) c.places.at c.in-Some.is (omega (arith, c.places-test.true)) c.places.invariant c.in_ok-push-in-Some.ensures.ok

use Rattle.std.proofs.Common.{◌≤◌, length, refl, arith, rules}
use Rattle.scan_task.proofs.scanned.same_by_slots.Goals as goal

pub returns : goal.returns
returns c =
    let all : length c.args.cells.now ≤ c.loop-slot.slot = search rules in
    (λ _ k below. c.loop-slot.invariant k (omega (arith, below, all)), λ _. refl)

use Rattle.std.proofs.Common.{◌≡◌, ◌≤◌, ◌*◌, take}
use Rattle.std.specs.Prelude.{sum}
use Rattle.show_calls.proofs.summary.sum_of.Given as goal

-- the sum so far
abbrev pub invariant-times : goal.invariant-times
invariant-times l = (l.sum ≡ sum (take l.time-index l.times)) × (l.sum ≤ 4294967295 * l.time-index)

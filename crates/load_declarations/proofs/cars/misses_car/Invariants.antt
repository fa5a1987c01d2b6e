use Rattle.std.proofs.Common.{◌≡◌, ℕ, ◌≤◌, nat_eq, true}
use Rattle.std.specs.HashSet as bag
use Rattle.load_declarations.proofs.cars.misses_car.Given as goal

abbrev pub invariant-loop-number : goal.invariant-loop-number
invariant-loop-number l = (k : ℕ) → 1 ≤ k → k ≤ l.number → bag.contains nat_eq l.numbers k ≡ true

use Rattle.std.proofs.Common.{◌≡◌, ◌≤◌}
use Rattle.load_slots.specs.Making.{sizes_to}
use Rattle.load_slots.proofs.sizes.block_sizes.Given as goal

-- sizes so many deep
abbrev pub invariant-loop : goal.invariant-loop
invariant-loop l = (l.counter ≤ 16) × (l.sizes ≡ sizes_to l.counter l.lists)

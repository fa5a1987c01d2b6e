use Rattle.std.proofs.Common.{◌≡◌, ◌++◌, map, drop}
use Rattle.load_slots.specs.Making.{list_size}
use Rattle.load_slots.proofs.sizes.next_sizes.Given as goal

-- the sizes so far, with those that are left, are all
abbrev pub invariant-loop-list : goal.invariant-loop-list
invariant-loop-list l = l.all ++ map (λ vs. list_size l.known l.sizes 0 vs) (drop l.list-index l.lists) ≡ map (λ vs. list_size l.known l.sizes 0 vs) l.lists

use Rattle.std.proofs.Common.{◌≡◌, take}
use Rattle.base_lists.proofs.bounded.Bounded.from_slice.Given as goal

abbrev pub invariant-items : goal.invariant-items
invariant-items g l = l.list ≡ take l.item-index l.items

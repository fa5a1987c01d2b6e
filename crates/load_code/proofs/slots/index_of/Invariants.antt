use Rattle.std.proofs.Common.{◌≡◌, map, take}
use Rattle.base_maps.specs.NameMap.{Text, get}
use Rattle.load_scope.specs.Views.{place_of}
use Rattle.load_code.proofs.slots.index_of.Given as goal

-- those so far
abbrev pub invariant-loop-slot : goal.invariant-loop-slot
invariant-loop-slot l = (q : Text) → get l.table q ≡ place_of (map (λ x. x.path) (take l.slot l.cells)) q

use Rattle.std.proofs.Common.{◌≡◌, ◌++◌, map, drop}
use Rattle.il_semantics.specs.Meaning.{own_entities}
use Rattle.load_slots.specs.Making.{shown}
use Rattle.load_slots.proofs.sizes.own_lists.Given as goal

-- the lists so far, with those that are left, are all
abbrev pub invariant-loop-unit : goal.invariant-loop-unit
invariant-loop-unit l = l.lists ++ map (λ u. map (shown l.names) (own_entities u)) (drop l.unit-index l.units) ≡ map (λ u. map (shown l.names) (own_entities u)) l.units

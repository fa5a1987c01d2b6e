use Rattle.std.proofs.Common.{◌≡◌, ◌++◌, map, drop}
use Rattle.load_slots.specs.Making.{unit_offsets}
use Rattle.load_slots.proofs.tables.units_offsets.Given as goal

-- the tables so far, with those that are left, are all
abbrev pub invariant-loop-at : goal.invariant-loop-at
invariant-loop-at l = l.tables ++ map (unit_offsets l.names) (drop l.at l.names.units) ≡ map (unit_offsets l.names) l.names.units

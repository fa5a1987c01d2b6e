use Rattle.std.proofs.Common.{◌≡◌, ◌++◌, map, drop}
use Rattle.load_slots.specs.Program.{program_names}
use Rattle.load_slots.specs.Whole.{unit_code}
use Rattle.load_code.proofs.units.codes.Given as goal

-- the code so far, with that of what is left, is all
abbrev pub invariant-loop-at : goal.invariant-loop-at
invariant-loop-at l = l.codes ++ map (unit_code (program_names l.names) l.names) (drop l.at l.names.units) ≡ map (unit_code (program_names l.names) l.names) l.names.units

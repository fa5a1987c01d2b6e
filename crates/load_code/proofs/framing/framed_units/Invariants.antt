use Rattle.std.proofs.Common.{◌≡◌, ◌++◌, drop, map, length, slice_get, Some}
use Rattle.il_syntax.specs.declared.tree.Unit.{Unit as ProgramUnit}
use Rattle.load_code.specs.Laying.{has_frame}
use Rattle.load_code.proofs.framing.framed_units.Given as goal

abbrev pub invariant-units : goal.invariant-units
invariant-units l = (length l.framed ≡ l.at) × ((p : ProgramUnit) → slice_get l.ordered.units l.program ≡ Some p → l.framed ++ map (has_frame l.ordered p) (drop l.at l.units) ≡ map (has_frame l.ordered p) l.units)

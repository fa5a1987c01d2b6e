use Rattle.std.proofs.Common.{◌≡◌, length}
use Rattle.il_statics.specs.Least.{IsLeast, Either}
use Rattle.load_order.specs.Breaks.{RecursionsBreak, ChainsBreak}
use Rattle.load_order.specs.Chained.{AreDead}
use Rattle.load_order.proofs.answer.units_fault.Given as goal

abbrev pub invariant-loop-at : goal.invariant-loop-at
invariant-loop-at l = record {
  units : length l.ends.items ≡ length l.names.units;
  dead : AreDead (length l.ends.items) l.uses l.ends.items;
  found : IsLeast l.found (Either (RecursionsBreak l.names l.reached (length l.names.units)) (ChainsBreak l.names l.uses l.at));
}

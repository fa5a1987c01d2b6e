use Rattle.std.proofs.Common.{◌≡◌, ℕ, ◌-◌, ◌<◌, ◌∷◌, [], ◌++◌, true, false, length}
use Rattle.load_order.specs.Related.{holds}
use Rattle.load_order.specs.Chained.{leads_on, is_shut, AreAmong, AreDead}
use Rattle.load_order.proofs.chains.+leads_on.Given as goal

abbrev pub invariant-loop-to : goal.invariant-loop-to
invariant-loop-to l = record {
  way : l.way.items ≡ l.fn.way.items ++ l.from ∷ [];
  units : length l.ends.items ≡ l.count;
  same : l.count ≡ length l.fn.ends.items;
  dead : AreDead (length l.fn.ends.items) l.uses l.ends.items;
  among : AreAmong l.reason (l.fn.way.items ++ l.from ∷ []);
  found : l.found ≡ true → leads_on (length l.fn.ends.items) l.uses l.left l.fn.way.items l.from ≡ true;
  shut : l.found ≡ false → (k : ℕ) → k < l.to → holds l.uses l.from k ≡ true → is_shut (length l.fn.ends.items) l.uses (l.left - 1) l.reason k ≡ true;
}

abbrev pub decreases-leads_on : goal.decreases-leads_on
decreases-leads_on l = l.left

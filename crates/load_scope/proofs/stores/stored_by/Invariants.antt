use Rattle.std.proofs.Common.{◌≡◌, ◌||◌, Bool, is_some, take}
use Rattle.il_statics.specs.Names.{Spelling}
use Rattle.base_maps.specs.NameMap.{get, empty}
use Rattle.load_scope.specs.StoredNames.{is_stored}
use Rattle.load_scope.proofs.stores.stored_by.Given as goal

abbrev pub invariant-loop-step : goal.invariant-loop-step
invariant-loop-step l = (q : Spelling) → is_some (get l.stored q) ≡ (is_some (get {X = Bool} empty q) || is_stored (take l.step-index l.steps) q)

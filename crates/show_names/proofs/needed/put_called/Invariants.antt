use Rattle.std.proofs.Common.{◌≡◌, ◌||◌}
use Rattle.std.specs.Prelude.{is_some}
use Rattle.std.specs.List.{list_any}
use Rattle.base_maps.specs.NameMap.{get}
use Rattle.il_statics.specs.Names.{Spelling}
use Rattle.show_names.specs.Uses.{is_use, is_used, uses_left}
use Rattle.show_names.specs.declared.uses.Manner.TheVariants.{Called}
use Rattle.show_names.proofs.needed.put_called.Given as goal

abbrev pub invariant-uses : goal.invariant-uses
invariant-uses l = (name : Spelling) → (is_some (get l.table name) || list_any (is_use Called name) (uses_left l.used-iterator)) ≡ (is_some (get l.initial.table name) || is_used Called name l.steps)

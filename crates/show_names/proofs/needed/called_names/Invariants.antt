use Rattle.std.proofs.Common.{◌≡◌, ◌||◌, false, take}
use Rattle.std.specs.Prelude.{is_some}
use Rattle.std.specs.List.{list_any}
use Rattle.il_syntax.specs.declared.tree.Unit.{Unit as ProgramUnit}
use Rattle.base_maps.specs.NameMap.{get}
use Rattle.il_statics.specs.Names.{Spelling}
use Rattle.show_names.specs.Uses.{is_used}
use Rattle.show_names.specs.declared.uses.Manner.TheVariants.{Called}
use Rattle.show_names.proofs.needed.called_names.Given as goal

abbrev pub invariant-units : goal.invariant-units
invariant-units l = (name : Spelling) → is_some (get l.table name) ≡ (false || list_any (λ (u : ProgramUnit). is_used Called name u.body.steps) (take l.unit-index l.units))

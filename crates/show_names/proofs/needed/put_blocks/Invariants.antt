use Rattle.std.proofs.Common.{◌≡◌, ◌||◌, take}
use Rattle.std.specs.Prelude.{is_some}
use Rattle.std.specs.List.{list_any}
use Rattle.il_syntax.specs.declared.tree.Declaration.{Declaration}
use Rattle.base_maps.specs.NameMap.{get}
use Rattle.il_statics.specs.Names.{Spelling}
use Rattle.show_names.specs.Warnings.{is_block_of}
use Rattle.show_names.proofs.needed.put_blocks.Given as goal

abbrev pub invariant-declarations : goal.invariant-declarations
invariant-declarations l = (name : Spelling) → is_some (get l.table name) ≡ (is_some (get l.initial.table name) || list_any (λ (d : Declaration). is_block_of name d.declared.form) (take l.declaration-index l.declarations))

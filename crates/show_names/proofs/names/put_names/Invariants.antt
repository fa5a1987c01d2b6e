use Rattle.std.proofs.Common.{◌≡◌, ◌||◌, is_some}
use Rattle.base_maps.specs.NameMap.{get}
use Rattle.il_statics.specs.Names.{Spelling}
use Rattle.show_names.specs.Names.{names_left, is_declared}
use Rattle.show_names.proofs.Seen.{is_told}
use Rattle.show_names.proofs.names.put_names.Given as goal

abbrev pub invariant-names : goal.invariant-names
invariant-names l = (name : Spelling) → is_told l.table (names_left l.declared-iterator) name ≡ (is_some (get l.initial.table name) || is_declared l.declarations name)

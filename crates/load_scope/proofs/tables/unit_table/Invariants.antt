use Rattle.std.proofs.Common.{◌≡◌, map, take}
use Rattle.il_statics.specs.Names.{Spelling}
use Rattle.base_maps.specs.NameMap.{get}
use Rattle.load_scope.specs.Views.{place_of}
use Rattle.load_scope.proofs.tables.unit_table.Given as goal

abbrev pub invariant-loop-index : goal.invariant-loop-index
invariant-loop-index l = (q : Spelling) → get l.table q ≡ place_of (map (λ u. u.name.name) (take l.index l.units)) q

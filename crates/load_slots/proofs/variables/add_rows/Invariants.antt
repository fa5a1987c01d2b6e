use Rattle.std.proofs.Common.{◌≡◌, map, drop}
use Rattle.std.specs.Prelude.{flat_map}
use Rattle.load_scope.specs.Images.{named}
use Rattle.load_slots.specs.Making.{seen_entry, added}
use Rattle.load_slots.proofs.variables.add_rows.Given as goal

-- what is there, with what is left, is all
abbrev pub invariant-all : goal.invariant-all
invariant-all l = added l.list (flat_map (seen_entry l.role l.part) (map (named l.names) (drop l.row-index l.rows))) ≡ added l.initial.list (flat_map (seen_entry l.role l.part) (map (named l.names) l.rows))

use Rattle.std.proofs.Common.{◌≡◌, map, drop}
use Rattle.il_semantics.specs.Meaning.{entities}
use Rattle.load_slots.specs.Making.{shown, added}
use Rattle.load_slots.proofs.variables.add_declarations.Given as goal

-- what is there, with what is left of the declarations, is all
abbrev pub invariant-lists : goal.invariant-lists
invariant-lists l = added l.list (map (shown l.names) (entities (drop l.declaration-index l.declarations))) ≡ added l.initial.list (map (shown l.names) (entities l.declarations))

use Rattle.std.proofs.Common.{arith}
use Rattle.il_semantics.specs.Meaning.{entities}
use Rattle.load_slots.specs.Making.{shown, added}
use Rattle.std.proofs.Common.{map}
use Rattle.load_slots.proofs.Seen.{declarations_next}
use Rattle.load_slots.proofs.variables.add_declarations.Goals as goal

pub lists-preserved : goal.lists-preserved
lists-preserved c =
    declarations_next c.args.names.now c.lists.list c.add_names.new.list c.args.declarations.now c.lists.declaration-index c.declaration-item.result c.as_slice.result.now c.type_of-declared.result c.literal_of-initial.result
    (added c.args.list.now (map (shown c.args.names.now) (entities c.args.declarations.now))) (omega arith) c.declaration-item.is c.as_slice.ensures c.type_of-declared.ensures c.literal_of-initial.ensures c.in_ok-add_names.ensures c.lists.invariant

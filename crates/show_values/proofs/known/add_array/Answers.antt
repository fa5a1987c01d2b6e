use Rattle.std.proofs.Common.{◌∷◌, [], ◌+◌, arith, refl, map, string_bytes}
use Rattle.show_values.specs.Known.{slot_name}
use Rattle.show_values.proofs.Knowing.{each_added}
use Rattle.show_values.proofs.known.add_array.Goals as goal

pub slots-preserved : goal.slots-preserved
slots-preserved c =
    let index = c.slots.index in
    each_added (λ slot. slot_name c.args.array slot ∷ []) 1 index (index + 1) (index + 1) refl (omega arith) (map string_bytes c.args.names.now.items) (map string_bytes c.slots.names.items) (map string_bytes c.add_slot.new.names.items) c.slots.invariant
    c.in_ok-add_slot.ensures

use Rattle.std.proofs.Common.{◌+◌, [], ap, refl, map, string_bytes}
use Rattle.group_spec.specs.declared.image.Sizes.{Sizes}
use Rattle.group_spec.specs.Image.{sizes_of}
use Rattle.show_values.proofs.Knowing.{all_known}
use Rattle.show_values.proofs.known.known_names.Goals as goal

pub returns : goal.returns
returns c =
    let config = c.args.verified.now.config in
    all_known config c.sizes.result.slots ((sizes_of config).cars + 1) (ap (λ (s : Sizes). s.slots) c.sizes.ensures) refl c.globals.result.now c.globals.ensures (map string_bytes c.new-names.result.items) (map string_bytes c.add_shared.new.names.items)
    (map string_bytes c.add_slots.new.names.items) (map string_bytes c.add_tasks.new.names.items) (map string_bytes c.add_globals.new.names.items) (ap (map string_bytes) c.new-names.ensures.items) c.in_ok-add_shared.ensures c.in_ok-add_slots.ensures
    c.in_ok-add_tasks.ensures c.in_ok-add_globals.ensures

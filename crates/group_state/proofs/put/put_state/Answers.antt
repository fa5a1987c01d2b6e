use Rattle.std.proofs.Common.{◌∙◌, ◌∷◌, ◌++◌, [], suc, ap, ap₂, string_bytes}
use Rattle.std.specs.Prelude.{codes}
use Rattle.base_texts.specs.Puts.{Puts}
use Rattle.group_spec.specs.declared.image.Image.{Image}
use Rattle.group_spec.specs.Image.{sizes_of}
use Rattle.group_state.specs.Text.{first_line, configuration_line, hex_text, fields_lines, cars_lines, number_line, slots_lines, globals_lines, tasks_lines, end_line, state_text}
use Rattle.group_state.specs.Writing.{PutsLines}
use Rattle.group_state.proofs.Steps.{on_ok, state_put}
use Rattle.group_state.proofs.put.put_state.Goals as goal

pub returns : goal.returns
returns c =
    let config = c.args.world.now.program.config in
    let own = c.args.world.now.world.group in
    let tasks = tasks_lines config own 0 (suc (sizes_of config).cars) ++ end_line ∷ [] in
    on_ok c.put_last_lines.result (PutsLines c.put_globals.new.text c.put_last_lines.new.text tasks) (Puts c.args.text.now c.put_last_lines.new.text (state_text config c.args.digest.now c.args.world.now.world))
    (λ last.
    state_put (string_bytes c.args.text.now) (string_bytes c.push_str.new.self) (string_bytes c.put_configuration.new.text) (string_bytes c.put_fields.new.text) (string_bytes c.put_cars.new.text)
    (string_bytes c.put_tickets.new.text) (string_bytes c.put_slots.new.text) (string_bytes c.put_globals.new.text) (string_bytes c.put_last_lines.new.text) first_line (configuration_line (hex_text c.args.digest.now))
    (number_line (codes "TICKETS") c.last_ticket.result) (fields_lines c.image-image.result.now.fields) (cars_lines 1 c.as_slice.result.now c.as_slice-2.result.now) (slots_lines 1 c.as_slice-3.result.now)
    (globals_lines config own.globals) tasks c.in_ok-push_str.ensures.bytes c.in_ok-put_configuration.ensures c.in_ok-put_fields.ensures c.in_ok-put_cars.ensures c.in_ok-put_tickets.ensures
    c.in_ok-put_slots.ensures c.in_ok-put_globals.ensures last (number_line (codes "TICKETS") own.calls.last_ticket) (fields_lines own.image.fields) (cars_lines 1 own.image.fields.cars own.image.outputs)
    (slots_lines 1 own.calls.slots) (ap (number_line (codes "TICKETS")) c.last_ticket.ensures) (ap (λ (i : Image). fields_lines i.fields) c.image-image.ensures.image)
    (ap₂ (cars_lines 1) (c.as_slice.ensures ∙ ap (λ (i : Image). i.fields.cars) c.image-image.ensures.image) (c.as_slice-2.ensures ∙ ap (λ (i : Image). i.outputs) c.image-image.ensures.image))
    (ap (slots_lines 1) (c.as_slice-3.ensures ∙ c.slots.ensures)))
    c.put_last_lines.ensures

use Rattle.std.proofs.Common.{◌++◌}
use Rattle.std.specs.Prelude.{codes, string_bytes}
use Rattle.base_texts.specs.Puts.{Puts}
use Rattle.reasons_names.proofs.Pieces.{join, on_ok}
use Rattle.reasons_faults.specs.TaskReasons.{size_lines, sizes_lines}
use Rattle.reasons_faults.proofs.tasks.put_sizes.Goals as goal

pub returns : goal.returns
returns c =
    let config = c.args.config.now in
    let old = string_bytes c.args.text.now in
    let one = string_bytes c.put_size.new.text in
    let two = string_bytes c.put_size-2.new.text in
    let three = string_bytes c.put_size-3.new.text in
    let cars = size_lines (codes "CARS is from 1 to 8\n") c.args.offset config.cars in
    let floors = size_lines (codes "FLOORS is from 2 to 16\n") c.args.offset config.floors in
    let slots = size_lines (codes "SLOTS is from 1 to 64\n") c.args.offset config.slots in
    on_ok c.put_size-3.result (Puts c.put_size-2.new.text c.put_size-3.new.text slots) (Puts c.args.text.now c.put_size-3.new.text (sizes_lines config c.args.offset))
    (λ last. join old cars one three (floors ++ slots) c.in_ok-put_size.ensures (join one floors two three slots c.in_ok-put_size-2.ensures last)) c.put_size-3.ensures

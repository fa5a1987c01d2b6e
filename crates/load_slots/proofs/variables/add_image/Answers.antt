use Rattle.std.proofs.lemmas.Result.{on_ok_weaker}
use Rattle.load_slots.proofs.Seen.{parts_added}
use Rattle.load_slots.proofs.variables.add_image.Goals as goal

pub returns : goal.returns
returns c =
    on_ok_weaker c.add_rows-2.result
    (λ is. parts_added c.args.names.now c.args.role c.image_rows-rows.result.now c.args.list.now c.add_rows.new.list c.add_rows-2.new.list (c.image_rows-rows.ensures c.args.names.now) c.in_ok-add_rows.ensures is)
    c.add_rows-2.ensures

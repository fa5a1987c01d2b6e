use Rattle.std.proofs.Common.{refl, length}
use Rattle.std.proofs.lemmas.List.{length-map}
use Rattle.scan_image.specs.Image.{image_values}
use Rattle.scan_task.specs.Starting.{shared_value, listed_values}
use Rattle.scan_task.proofs.Restarts.{seen_room, seen_written}
use Rattle.scan_task.proofs.scanning.write_seen.Goals as goal

pub write_image-requires-clause-numbers : goal.write_image-requires-clause-numbers
write_image-requires-clause-numbers c =
    (seen_room c.args.rows.now c.write_listed.new.rows (listed_values c.args.listed) c.args.own (length c.args.listed.slots.now) (length (image_values c.args.sizes c.args.task c.args.image.now c.args.calls.now.slots)) c.requires.numbers c.requires.flags c.write_listed.ensures).0

pub write_image-requires-clause-flags : goal.write_image-requires-clause-flags
write_image-requires-clause-flags c =
    (seen_room c.args.rows.now c.write_listed.new.rows (listed_values c.args.listed) c.args.own (length c.args.listed.slots.now) (length (image_values c.args.sizes c.args.task c.args.image.now c.args.calls.now.slots)) c.requires.numbers c.requires.flags c.write_listed.ensures).1

pub returns : goal.returns
returns c =
    let seen = image_values c.args.sizes c.args.task c.args.image.now c.args.calls.now.slots in
    seen_written c.args.rows.now c.write_listed.new.rows c.write_image.new.rows (listed_values c.args.listed) seen c.args.own (length c.args.listed.slots.now) (length seen)
    (length-map c.args.listed.slots.now (shared_value c.args.listed.cells.now c.args.listed.rows.now)) c.requires.numbers c.requires.flags refl c.write_listed.ensures c.write_image.ensures

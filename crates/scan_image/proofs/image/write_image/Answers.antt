use Rattle.std.proofs.Common.{◌≡◌, ◌+◌, ◌∙◌, ap, length, arith}
use Rattle.scan_image.specs.Image.{group_values, call_values, role_values}
use Rattle.scan_image.proofs.Writing.{same_numbers, same_flags, image_long, image_written}
use Rattle.scan_image.proofs.image.write_image.Goals as goal

pub write_calls-requires-clause-numbers : goal.write_calls-requires-clause-numbers
write_calls-requires-clause-numbers c =
    let room = c.requires.numbers in
    let long = image_long c.args.sizes c.args.task c.args.image.now c.args.calls.now.slots in
    let first = same_numbers c.args.rows.now c.write_group.new.rows c.args.at (group_values c.args.sizes c.args.image.now.fields) c.write_group.ensures in
    omega (arith, room, long, first)

pub write_role-requires-clause-numbers : goal.write_role-requires-clause-numbers
write_role-requires-clause-numbers c =
    let count : c.from-count.result ≡ length c.args.calls.now.slots = c.from-count.ensures ∙ c.count.ensures.value in
    let room = c.requires.numbers in
    let long = image_long c.args.sizes c.args.task c.args.image.now c.args.calls.now.slots in
    let first = same_numbers c.args.rows.now c.write_group.new.rows c.args.at (group_values c.args.sizes c.args.image.now.fields) c.write_group.ensures in
    let second = same_numbers c.write_group.new.rows c.write_calls.new.rows (c.args.at + 6) (call_values c.args.calls.now.slots) c.write_calls.ensures in
    omega (arith, room, long, first, second, count, ap (λ n. length (role_values c.args.task c.args.image.now n)) count)

pub write_calls-requires-clause-flags : goal.write_calls-requires-clause-flags
write_calls-requires-clause-flags c =
    let room = c.requires.flags in
    let long = image_long c.args.sizes c.args.task c.args.image.now c.args.calls.now.slots in
    let first = same_flags c.args.rows.now c.write_group.new.rows c.args.at (group_values c.args.sizes c.args.image.now.fields) c.write_group.ensures in
    omega (arith, room, long, first)

pub write_role-requires-clause-flags : goal.write_role-requires-clause-flags
write_role-requires-clause-flags c =
    let count : c.from-count.result ≡ length c.args.calls.now.slots = c.from-count.ensures ∙ c.count.ensures.value in
    let room = c.requires.flags in
    let long = image_long c.args.sizes c.args.task c.args.image.now c.args.calls.now.slots in
    let first = same_flags c.args.rows.now c.write_group.new.rows c.args.at (group_values c.args.sizes c.args.image.now.fields) c.write_group.ensures in
    let second = same_flags c.write_group.new.rows c.write_calls.new.rows (c.args.at + 6) (call_values c.args.calls.now.slots) c.write_calls.ensures in
    omega (arith, room, long, first, second, count, ap (λ n. length (role_values c.args.task c.args.image.now n)) count)

pub returns : goal.returns
returns c =
    image_written c.args.rows.now c.write_group.new.rows c.write_calls.new.rows c.write_role.new.rows c.args.at c.args.sizes c.args.task c.args.image.now c.from-count.result c.args.calls.now.slots (c.from-count.ensures ∙ c.count.ensures.value) c.write_group.ensures c.write_calls.ensures c.write_role.ensures

use Rattle.std.proofs.Common.{arith, length, length-append, map, ap, ◌∙◌}
use Rattle.std.proofs.lemmas.List.{length-map}
use Rattle.group_rounds.specs.declared.notice.Notice.TheVariants.{Denied}
use Rattle.group_rounds.proofs.Few.{scan_share}
use Rattle.group_rounds.proofs.rounds.scan_one.Goals as goal

pub add_denials-requires : goal.add_denials-requires
add_denials-requires c =
    let share = scan_share c.args.world.now.program.config c.args.task c.args.world.now.world c.scan.new.world.world c.scan.new.report c.scan.ensures.scan c.len-few.ensures.fits in
    let same = ap length c.as_slice.ensures in
    omega (arith, share, same, c.requires.room)

pub add_answers-requires : goal.add_answers-requires
add_answers-requires c =
    let share = scan_share c.args.world.now.program.config c.args.task c.args.world.now.world c.scan.new.world.world c.scan.new.report c.scan.ensures.scan c.len-few.ensures.fits in
    let grown = ap length c.add_denials.ensures ∙ length-append c.args.notices.now (map Denied c.as_slice.result.now) in
    let many = length-map c.as_slice.result.now Denied in
    let denied = ap length c.as_slice.ensures in
    let answered = ap length c.as_slice-2.ensures in
    omega (arith, share, grown, many, denied, answered, c.requires.room)

pub returns-clause-room : goal.returns-clause-room
returns-clause-room c =
    let share = scan_share c.args.world.now.program.config c.args.task c.args.world.now.world c.scan.new.world.world c.scan.new.report c.scan.ensures.scan c.len-few.ensures.fits in
    let grown = ap length c.add_denials.ensures ∙ length-append c.args.notices.now (map Denied c.as_slice.result.now) in
    let many = length-map c.as_slice.result.now Denied in
    let denied = ap length c.as_slice.ensures in
    let answered = ap length c.as_slice-2.ensures in
    omega (arith, share, grown, many, denied, answered, c.add_answers.ensures.room)

use Rattle.std.proofs.Common.{arith}
use Rattle.test_library.proofs.Fitting.{few_reports}
use Rattle.test_library.proofs.group.run.Goals as goal

pub run-requires-clause-report_room : goal.run-requires-clause-report_room
run-requires-clause-report_room c =
    let few = few_reports c.split_at.result.0.now in
    let front = c.split_at.ensures.front_len in
    let back = c.split_at.ensures.back_len in
    let room = c.in_ok-replies.ensures.report_room in
    let none = c.in_ok-replies.ensures.empty.1 in
    omega (arith, few, front, back, room, none)

pub run-requires-2-clause-report_room : goal.run-requires-2-clause-report_room
run-requires-2-clause-report_room c =
    let few = few_reports c.split_at.result.0.now in
    let rest = few_reports c.split_at.result.1.now in
    let front = c.split_at.ensures.front_len in
    let back = c.split_at.ensures.back_len in
    let room = c.in_ok-replies.ensures.report_room in
    let none = c.in_ok-replies.ensures.empty.1 in
    let reported = c.run.ensures.reports in
    let kept = c.run.ensures.report_room_kept in
    omega (arith, few, rest, front, back, room, none, reported, kept)

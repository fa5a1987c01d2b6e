use Rattle.std.proofs.Common.{ap, length, arith}
use Rattle.scan_loop.specs.Going.{Stored}
use Rattle.scan_task.proofs.Restarts.{own_room, taken_fits, taken_own}
use Rattle.scan_task.proofs.scanning.start.Goals as goal

pub take_front-requires-clause-numbers : goal.take_front-requires-clause-numbers
take_front-requires-clause-numbers c =
    let room = (own_room c.args.verified.now.config c.args.task c.args.scan.now.rows c.requires.rows c.args.begin.now.variables.now c.requires.begin.variables).0 in
    let here = ap (λ (s : Stored). length s.rows.numbers) c.scan.view_is in
    omega (arith, room, here)

pub take_front-requires-clause-flags : goal.take_front-requires-clause-flags
take_front-requires-clause-flags c =
    let room = (own_room c.args.verified.now.config c.args.task c.args.scan.now.rows c.requires.rows c.args.begin.now.variables.now c.requires.begin.variables).1 in
    let here = ap (λ (s : Stored). length s.rows.flags) c.scan.view_is in
    omega (arith, room, here)

pub start_behind-requires-clause-rows : goal.start_behind-requires-clause-rows
start_behind-requires-clause-rows c = taken_fits c.args.verified.now.config c.args.task c.args.scan.now.rows c.requires.rows c.args.begin.now.variables.now c.requires.begin.variables c.scan.inside.rows c.take_front.new.all (ap (λ (s : Stored). s.rows) c.scan.view_is) c.take_front.ensures

pub start_behind-requires-clause-own : goal.start_behind-requires-clause-own
start_behind-requires-clause-own c = taken_own c.args.verified.now.config c.args.task c.args.scan.now.rows c.requires.rows c.args.begin.now.variables.now c.requires.begin.variables c.scan.inside.rows c.take_front.new.all (ap (λ (s : Stored). s.rows) c.scan.view_is) c.take_front.ensures

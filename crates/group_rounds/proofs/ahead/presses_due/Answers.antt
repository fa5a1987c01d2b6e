use Rattle.std.proofs.Common.{rules, arith, ◌<◌, ◌≤◌, length}
use Rattle.group_rounds.specs.Ahead.{press_round}
use Rattle.group_rounds.proofs.Fronts.{a_press, front_is, next_are, stopped, stops_at_end}
use Rattle.group_rounds.proofs.ahead.presses_due.Goals as goal

pub presses-preserved : goal.presses-preserved
presses-preserved c =
    let below : c.presses.count < length c.args.presses.now = search rules in
    record { room = omega (arith, below); all = next_are press_round c.args.round c.args.presses.now c.presses.count (a_press 0) below c.presses.invariant.all c.if-presses-count.true }

pub returns-else-presses-count-clause-due : goal.returns-else-presses-count-clause-due
returns-else-presses-count-clause-due c =
    let below : c.presses.count < length c.args.presses.now = search rules in
    (front_is press_round c.args.round c.args.presses.now c.presses.count c.requires.rises c.presses.invariant.all (stopped press_round c.args.round c.args.presses.now c.presses.count (a_press 0) below c.if-presses-count.false)).own

pub returns-else-presses-count-clause-later : goal.returns-else-presses-count-clause-later
returns-else-presses-count-clause-later c =
    let below : c.presses.count < length c.args.presses.now = search rules in
    (front_is press_round c.args.round c.args.presses.now c.presses.count c.requires.rises c.presses.invariant.all (stopped press_round c.args.round c.args.presses.now c.presses.count (a_press 0) below c.if-presses-count.false)).ahead

pub returns-after-presses-clause-due : goal.returns-after-presses-clause-due
returns-after-presses-clause-due c =
    let all : length c.args.presses.now ≤ c.presses.count = search rules in
    (front_is press_round c.args.round c.args.presses.now c.presses.count c.requires.rises c.presses.invariant.all (stops_at_end press_round c.args.round c.args.presses.now c.presses.count all)).own

pub returns-after-presses-clause-later : goal.returns-after-presses-clause-later
returns-after-presses-clause-later c =
    let all : length c.args.presses.now ≤ c.presses.count = search rules in
    (front_is press_round c.args.round c.args.presses.now c.presses.count c.requires.rises c.presses.invariant.all (stops_at_end press_round c.args.round c.args.presses.now c.presses.count all)).ahead

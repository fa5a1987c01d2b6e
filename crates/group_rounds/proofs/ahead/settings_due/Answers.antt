use Rattle.std.proofs.Common.{rules, arith, ◌<◌, ◌≤◌, length}
use Rattle.group_rounds.specs.Ahead.{setting_round}
use Rattle.group_rounds.proofs.Fronts.{a_setting, front_is, next_are, stopped, stops_at_end}
use Rattle.group_rounds.proofs.ahead.settings_due.Goals as goal

pub settings-preserved : goal.settings-preserved
settings-preserved c =
    let below : c.settings.count < length c.args.settings.now = search rules in
    record { room = omega (arith, below); all = next_are setting_round c.args.round c.args.settings.now c.settings.count (a_setting 0) below c.settings.invariant.all c.if-settings-count.true }

pub returns-else-settings-count-clause-due : goal.returns-else-settings-count-clause-due
returns-else-settings-count-clause-due c =
    let below : c.settings.count < length c.args.settings.now = search rules in
    (front_is setting_round c.args.round c.args.settings.now c.settings.count c.requires.rises c.settings.invariant.all (stopped setting_round c.args.round c.args.settings.now c.settings.count (a_setting 0) below c.if-settings-count.false)).own

pub returns-else-settings-count-clause-later : goal.returns-else-settings-count-clause-later
returns-else-settings-count-clause-later c =
    let below : c.settings.count < length c.args.settings.now = search rules in
    (front_is setting_round c.args.round c.args.settings.now c.settings.count c.requires.rises c.settings.invariant.all (stopped setting_round c.args.round c.args.settings.now c.settings.count (a_setting 0) below c.if-settings-count.false)).ahead

pub returns-after-settings-clause-due : goal.returns-after-settings-clause-due
returns-after-settings-clause-due c =
    let all : length c.args.settings.now ≤ c.settings.count = search rules in
    (front_is setting_round c.args.round c.args.settings.now c.settings.count c.requires.rises c.settings.invariant.all (stops_at_end setting_round c.args.round c.args.settings.now c.settings.count all)).own

pub returns-after-settings-clause-later : goal.returns-after-settings-clause-later
returns-after-settings-clause-later c =
    let all : length c.args.settings.now ≤ c.settings.count = search rules in
    (front_is setting_round c.args.round c.args.settings.now c.settings.count c.requires.rises c.settings.invariant.all (stops_at_end setting_round c.args.round c.args.settings.now c.settings.count all)).ahead

use Rattle.std.proofs.Common.{length, ap}
use Rattle.ranges_pass.proofs.Verdict.{ahead, fine}
use Rattle.ranges_pass.proofs.Shown.{shows_unit}
use Rattle.ranges_pass.proofs.showing.showing_fault.Goals as goal

pub pass-requires-clause-ahead : goal.pass-requires-clause-ahead
pass-requires-clause-ahead g c = ahead c.args.scope.now c.args.numbering.now.declared c.requires.setting c.in_ok-entry.entry c.in_ok-entry.ensures (length c.args.steps.now) (ap length c.requires.steps)

pub pass-requires-clause-fine : goal.pass-requires-clause-fine
pass-requires-clause-fine g c = fine c.args.scope.now c.args.numbering.now.declared c.requires.setting c.in_ok-entry.entry c.in_ok-entry.ensures (length c.args.steps.now) (ap length c.requires.steps)

pub returns : goal.returns
returns g c =
    shows_unit c.args.scope.now c.args.numbering.now.declared c.requires.setting c.in_ok-entry.entry c.in_ok-entry.ensures (length c.args.steps.now) (ap length c.requires.steps) (g.W.Witness.shows c.args.witness) c.args.steps.now c.requires.steps (g.W.Witness.text c.args.witness) (g.W.Witness.text c.pass.new.observer.witness) c.in_ok-fault.fault
    c.in_ok-fault.ensures.shown

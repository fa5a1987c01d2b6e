use Rattle.std.proofs.Common.{length, ap}
use Rattle.ranges_pass.proofs.Verdict.{ahead, fine, judged, if_ok}
use Rattle.ranges_pass.proofs.unit_flow.flow_fault.Goals as goal

pub pass-requires-clause-ahead : goal.pass-requires-clause-ahead
pass-requires-clause-ahead c = ahead c.args.scope.now c.args.numbering.now.declared c.requires.setting c.in_ok-entry.entry c.in_ok-entry.ensures (length c.args.steps.now) (ap length c.requires.steps)

pub pass-requires-clause-fine : goal.pass-requires-clause-fine
pass-requires-clause-fine c = fine c.args.scope.now c.args.numbering.now.declared c.requires.setting c.in_ok-entry.entry c.in_ok-entry.ensures (length c.args.steps.now) (ap length c.requires.steps)

pub returns : goal.returns
returns c = if_ok c.pass.result _ _ (judged c.args.scope.now c.args.numbering.now.declared c.requires.setting c.in_ok-entry.entry c.in_ok-entry.ensures (length c.args.steps.now) (ap length c.requires.steps)) c.pass.ensures.passed

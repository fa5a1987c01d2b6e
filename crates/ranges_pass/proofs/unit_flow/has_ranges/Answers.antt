use Rattle.std.proofs.Common.{length, ap, not, ◌∙◌}
use Rattle.ranges_pass.proofs.Verdict.{ahead, fine, has_ranges}
use Rattle.ranges_pass.proofs.unit_flow.has_ranges.Goals as goal

pub pass-requires-clause-ahead : goal.pass-requires-clause-ahead
pass-requires-clause-ahead c = ahead c.args.scope.now c.args.numbering.now.declared c.requires.setting c.in_ok-entry.entry c.in_ok-entry.ensures (length c.args.steps.now) (ap length c.requires.steps)

pub pass-requires-clause-fine : goal.pass-requires-clause-fine
pass-requires-clause-fine c = fine c.args.scope.now c.args.numbering.now.declared c.requires.setting c.in_ok-entry.entry c.in_ok-entry.ensures (length c.args.steps.now) (ap length c.requires.steps)

pub returns : goal.returns
returns c = λ is.
    has_ranges c.args.scope.now c.args.numbering.now.declared c.requires.setting c.in_ok-entry.entry c.in_ok-entry.ensures (length c.args.steps.now) (ap length c.requires.steps) (λ place f r. Unit {0}) c.in_ok-refused.refused c.in_ok-refused.ensures.passed (c.is_none.ensures ∙ ap not is)

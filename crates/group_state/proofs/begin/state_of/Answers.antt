use Rattle.group_state.proofs.Beginning.{empty_state}
use Rattle.group_state.proofs.begin.state_of.Goals as goal

pub returns-in_default-clause-none : goal.returns-in_default-clause-none
returns-in_default-clause-none c state is some small = c.in_default.ensures.none state is

pub returns-then-is_empty-clause-none : goal.returns-then-is_empty-clause-none
returns-then-is_empty-clause-none c = empty_state c.args.text.now c.in-Some.state.now c.in-Some.ensures.found c.if-is_empty.ensures

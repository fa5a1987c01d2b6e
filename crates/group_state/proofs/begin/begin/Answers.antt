use Rattle.group_state.proofs.begin.begin.Goals as goal

pub returns-in-None-clause-begins : goal.returns-in-None-clause-begins
returns-in-None-clause-begins c = c.open.ensures.begins c.args.source.now

pub returns-in-None-clause-fault : goal.returns-in-None-clause-fault
returns-in-None-clause-fault c = c.open.ensures.fault c.args.source.now

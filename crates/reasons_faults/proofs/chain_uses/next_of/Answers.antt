use Rattle.reasons_faults.proofs.chain_uses.next_of.Goals as goal

pub returns-then-is_apart-clause-line : goal.returns-then-is_apart-clause-line
returns-then-is_apart-clause-line c = c.in_ok-used.ensures.line

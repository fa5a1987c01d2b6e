use Rattle.scan_task.proofs.verified.Verified.program_number.Goals as goal

pub returns-clause-stands : goal.returns-clause-stands
returns-clause-stands c = λ u is. (c.plan.ensures u is).stands

pub returns-clause-first : goal.returns-clause-first
returns-clause-first c = λ u is. (c.plan.ensures u is).first

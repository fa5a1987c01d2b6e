use Rattle.load_order.proofs.Breaking.{refused_by}
use Rattle.load_order.proofs.check.Goals as goal

pub returns-in-Some-clause-refused : goal.returns-in-Some-clause-refused
returns-in-Some-clause-refused c = refused_by c.args.typed.now c.in_ok-fault.field-0.fault c.in-Some.found c.refusal.result c.in_ok-fault.ensures.fault c.in-Some.is c.refusal.ensures

pub returns-in_ok-needed-in-None-clause-accepted : goal.returns-in_ok-needed-in-None-clause-accepted
returns-in_ok-needed-in-None-clause-accepted c = c.in_ok-fault.ensures.fault.none c.in-None.is

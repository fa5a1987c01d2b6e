use Rattle.std.proofs.lemmas.Result.{IfOk-weaker}
use Rattle.load_text.proofs.PerUnit.{at_declarations, at_types}
use Rattle.load_text.proofs.per_unit.faults_of.Goals as goal

pub returns-in-Ok : goal.returns-in-Ok
returns-in-Ok c = IfOk-weaker c.unit_faults-in-Ok.result _ _ (λ faults all. at_types c.args.config c.in_ok-scoped.scoped c.in-Ok.declared faults.items c.in_ok-scoped.ensures c.in-Ok.ensures.same c.in-Ok.ensures.accepted all) c.unit_faults-in-Ok.ensures.all

pub returns-in-Err-Fault : goal.returns-in-Err-Fault
returns-in-Err-Fault c =
    at_declarations c.args.config c.in_ok-scoped.scoped c.in-Err-Fault.field-0 c.in-Err-Fault.field-0-0 c.in-Err-Fault.field-0-1 c.in_ok-faults.faults.items c.in_ok-scoped.ensures c.in-Err-Fault.field-0-is c.in-Err-Fault.ensures.refused c.in_ok-faults.ensures.all

use Rattle.std.proofs.Common.{subst, sym}
use Rattle.std.proofs.lemmas.Result.{IfOk-weaker}
use Rattle.load_text.specs.UnitFaults.{AreUnitFaults}
use Rattle.load_text.proofs.per_unit.unit_faults.Goals as goal

pub returns-in-Ok-clause-all : goal.returns-in-Ok-clause-all
returns-in-Ok-clause-all c = IfOk-weaker c.faults_of.result _ _ (λ faults are config spelled. subst (λ k. AreUnitFaults k faults.items) (sym (c.in-Ok.ensures.only.only config spelled)) are) c.faults_of.ensures

use Rattle.il_work_laws.proofs.accepted_scans_do_no_more.Goals as goal
use Rattle.il_work_laws.proofs.Working.{scans_work_within}
use Rattle.il_semantics_laws.proofs.Premises.{in_order}

pub returns : goal.returns
returns c = λ config program accepted annotated. scans_work_within config program annotated (in_order config program accepted)

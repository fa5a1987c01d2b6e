use Rattle.il_semantics_laws.proofs.accepted_scans_are_sound.Goals as goal
use Rattle.il_semantics_laws.proofs.Scanning.{scans_sound}
use Rattle.il_semantics_laws.proofs.Premises.{in_order}

pub returns : goal.returns
returns c = λ config program accepted annotated. scans_sound config program annotated (in_order config program accepted)

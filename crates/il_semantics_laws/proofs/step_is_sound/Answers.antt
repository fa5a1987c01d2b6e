use Rattle.il_semantics_laws.proofs.step_is_sound.Goals as goal
use Rattle.il_semantics_laws.proofs.Scanning.{step_sound}

pub returns : goal.returns
returns c = λ config program annotated order. step_sound config program order annotated

use Rattle.il_semantics_laws.proofs.scans_are_sound.Goals as goal
use Rattle.il_semantics_laws.proofs.Scanning.{scans_sound}

pub returns : goal.returns
returns c = scans_sound

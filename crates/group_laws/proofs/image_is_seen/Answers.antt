use Rattle.group_laws.proofs.Seen.{image_is_seen}
use Rattle.group_laws.proofs.image_is_seen.Goals as goal

pub returns : goal.returns
returns c = image_is_seen

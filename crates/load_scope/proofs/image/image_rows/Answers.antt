use Rattle.std.proofs.Common.{refl}
use Rattle.load_scope.proofs.image.image_rows.Goals as goal

pub returns : goal.returns
returns c config = refl

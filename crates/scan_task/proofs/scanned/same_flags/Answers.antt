use Rattle.std.specs.Cmp.{booleans_Decides}
use Rattle.std.proofs.lemmas.Slice.Eq.{slice_eq-Decides}
use Rattle.scan_task.proofs.scanned.same_flags.Goals as goal

pub returns : goal.returns
returns c = slice_eq-Decides booleans_Decides c.args.flags.now c.args.others.now c.eq.result c.eq.ensures

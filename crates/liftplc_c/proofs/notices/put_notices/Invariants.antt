use Rattle.std.proofs.Common.{◌≡◌, map, take}
use Rattle.liftplc_c.specs.Notices.{notice_output}
use Rattle.liftplc_c.proofs.notices.put_notices.Given as goal

abbrev pub invariant-notices : goal.invariant-notices
invariant-notices l = take l.index l.room ≡ map notice_output (take l.index l.notices)

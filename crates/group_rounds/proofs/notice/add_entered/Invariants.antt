use Rattle.std.proofs.Common.{◌≡◌, ◌++◌, map, take}
use Rattle.group_rounds.specs.declared.notice.Notice.TheVariants.{Entered}
use Rattle.group_rounds.proofs.notice.add_entered.Given as goal

abbrev pub invariant-calls : goal.invariant-calls
invariant-calls l = l.notices ≡ l.initial.notices ++ map Entered (take l.call-index l.entered)

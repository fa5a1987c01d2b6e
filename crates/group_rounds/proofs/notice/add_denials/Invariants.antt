use Rattle.std.proofs.Common.{◌≡◌, ◌++◌, map, take}
use Rattle.group_rounds.specs.declared.notice.Notice.TheVariants.{Denied}
use Rattle.group_rounds.proofs.notice.add_denials.Given as goal

abbrev pub invariant-denials : goal.invariant-denials
invariant-denials l = l.notices ≡ l.initial.notices ++ map Denied (take l.denial-index l.denials)

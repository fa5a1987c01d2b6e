use Rattle.std.proofs.Common.{◌≡◌, take}
use Rattle.group_journal.specs.Entered.{calls}
use Rattle.group_journal.proofs.entered.calls_of.Given as goal

abbrev pub invariant-entered : goal.invariant-entered
invariant-entered l = l.calls ≡ calls (take l.one-index l.entered)

use Rattle.std.proofs.Common.{◌≡◌, ◌++◌, replicate}
use Rattle.cli_messages.proofs.mark.put_times.Given as goal

-- the bytes so far
abbrev pub invariant-times : goal.invariant-times
invariant-times l = l.to.items ≡ l.initial.to.items ++ replicate l.counter l.byte

use Rattle.std.proofs.Common.{◌≡◌, ◌++◌, take}
use Rattle.cli_output.proofs.outcome.append.Given as goal

-- the items so far
abbrev pub invariant-more : goal.invariant-more
invariant-more g l = l.items ≡ l.initial.items ++ take l.item-index l.more

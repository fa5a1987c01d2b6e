use Rattle.std.proofs.Common.{◌≡◌, ◌++◌, map, take}
use Rattle.base_shown.specs.Shown.{shown}
use Rattle.cli_messages.proofs.place.put_shown.Given as goal

-- the bytes so far
abbrev pub invariant-bytes : goal.invariant-bytes
invariant-bytes l = l.to.items ≡ l.initial.to.items ++ map shown (take l.byte-index l.bytes)

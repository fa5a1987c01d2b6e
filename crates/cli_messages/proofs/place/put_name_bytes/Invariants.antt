use Rattle.std.proofs.Common.{◌≡◌, ◌++◌, drop}
use Rattle.cli_messages.specs.Places.{name_behind}
use Rattle.cli_messages.proofs.place.put_name_bytes.Given as goal

-- the bytes so far, and what is left as it is shown, are all
abbrev pub invariant-bytes : goal.invariant-bytes
invariant-bytes l = l.to.items ++ name_behind l.before (drop l.byte-index l.bytes) ≡ l.initial.to.items ++ name_behind 0 l.bytes

use Rattle.std.proofs.Common.{◌≡◌, ◌++◌, map, take, string_bytes}
use Rattle.base_shown.specs.Shown.{shown}
use Rattle.base_shown.proofs.shown.put_shown.Given as goal

abbrev pub invariant-bytes : goal.invariant-bytes
invariant-bytes l = string_bytes l.text ≡ string_bytes l.initial.text ++ map shown (take l.byte-index l.bytes)

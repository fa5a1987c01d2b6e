use Rattle.std.proofs.Common.{◌≡◌, map, take, string_bytes}
use Rattle.show_refusal.specs.Refusals.{line_byte}
use Rattle.show_refusal.proofs.refusal.told_text.Given as goal

abbrev pub invariant-bytes : goal.invariant-bytes
invariant-bytes l = string_bytes l.told ≡ map line_byte (take l.byte-index l.reason)

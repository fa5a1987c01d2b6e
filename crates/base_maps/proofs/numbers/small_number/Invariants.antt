use Rattle.std.proofs.Common.{◌≡◌, ◌≤◌, ◌<◌, suc, drop, length}
use Rattle.base_maps.specs.Numbers.{appended, number, are_bytes, sized}
use Rattle.base_maps.proofs.numbers.small_number.Given as goal

-- the number so far, with the bytes that are left, is that of the name
abbrev pub invariant-loop-byte : goal.invariant-loop-byte
invariant-loop-byte l = (appended l.number (drop l.byte-index l.byte-items) ≡ number l.name) × (are_bytes (drop l.byte-index l.byte-items) ≡ are_bytes l.name) × (l.number < sized (suc l.byte-index)) × (length l.byte-items ≤ 7)

use Rattle.std.proofs.Common.{◌≡◌, ◌≤◌, ◌<◌, ◌^◌, drop}
use Rattle.base_maps.specs.Numbers.{appended, number, are_bytes}
use Rattle.base_maps.proofs.numbers.long_number.Given as goal

-- the number so far, with the bytes that are left, is that of the name
abbrev pub invariant-loop-byte : goal.invariant-loop-byte
invariant-loop-byte l = (appended l.number (drop l.byte-index l.byte-items) ≡ number l.name) × (are_bytes (drop l.byte-index l.byte-items) ≡ are_bytes l.name) × (1 ≤ l.number) × (l.number < 2 ^ 128)

use Rattle.std.proofs.Common.{◌≡◌, ◌-◌}
use Rattle.group_spec.specs.Hands.{with_calls, calls_of_bits}
use Rattle.group_spec.proofs.hand.Hand.insert_from.Given as goal

-- the bits that are left lead to the same set
abbrev pub invariant-loop-to : goal.invariant-loop-to
invariant-loop-to l = with_calls l.fn.self (calls_of_bits 16 l.fn.floor 1 l.fn.mask) ≡ with_calls l.self (calls_of_bits (17 - l.to) l.fn.floor l.to l.rest)
